-- Claims. DOCUMENT 01'S STARRED BENCH FRAMES: 1, 2, 3, 5, 6, 7, 9, 10, 11 and 12, as one list under one claim.
use Rattle.std.specs.Prelude.{◌≡◌, Bool, true, false, List, [], ◌∷◌, ◌++◌, ℕ, ℤ, pos, negsuc, Ok}
use Rattle.types.specs.Value.{change_at}
use Rattle.frame.specs.Answer.{Outcome, replied}
use Rattle.store.specs.Value.{number_of}
use Rattle.reporting.specs.declared.entry.Key.{Key}
use Rattle.reporting.specs.declared.entry.ReportingConfig.{ReportingConfig}
use Rattle.reporting.specs.declared.entry.Entry.{Entry}
use Rattle.reporting.specs.Table.{capacity, Table, holding, mark_t, ask_t}
use Rattle.server.specs.Serve.{State, state, serve}

-- ---- store T

abbrev pub contents : List ℕ
contents =
    0x21 ∷ 0xfc ∷ 0x04 ∷ 0x00
    ∷ 0x00 ∷ 0x00 ∷ 0x23 ∷ 0x02 ∷ 0x24 ∷ 0x00 ∷ 0x04 ∷ 0x00
    ∷ 0x01 ∷ 0x00 ∷ 0x20 ∷ 0x01 ∷ 0x28 ∷ 0x00 ∷ 0x01 ∷ 0x00
    ∷ 0x05 ∷ 0x00 ∷ 0x29 ∷ 0x03 ∷ 0x29 ∷ 0x00 ∷ 0x02 ∷ 0x00
    ∷ 0x07 ∷ 0x00 ∷ 0x42 ∷ 0x01 ∷ 0x2b ∷ 0x00 ∷ 0x05 ∷ 0x00
    ∷ []

-- with this level as attribute 1
abbrev pub T : ℕ → List ℕ
T level = contents ++ (0x00 ∷ 0x00 ∷ 0x00 ∷ 0x80 ∷ level ∷ 0x38 ∷ 0xff ∷ 0x02 ∷ 0x54 ∷ 0x56 ∷ 0x00 ∷ 0x00 ∷ [])

-- ---- what a frame may claim

-- an ask: the time, the value, and whether a report is due
pub record Asking : Type 0 where
  pub time : ℕ
  pub value : ℤ
  pub due : Bool

pub data Claim : Type 0 where
  -- a request over T and an empty table, with this room: the reply, and attribute 1 afterwards
  serves : List ℕ → ℕ → List ℕ → ℕ → Claim
  -- a configure request over T and an empty table, with room 64: the reply, and the table that it leaves, which has attribute 5 alone, with
  -- this configuration and not marked; there attribute 5 is marked at a time with a value, and asked
  reports : List ℕ → List ℕ → ReportingConfig → ℕ → ℤ → List Asking → Claim
  -- the number of an attribute of T
  numbers : ℕ → ℤ → Claim
  -- the reportable change of a type, from these bytes
  changes : ℕ → List ℕ → ℕ → Claim

abbrev pub cluster : ℕ
cluster = 0xfc21

abbrev pub bench_answer : List ℕ → ℕ → Outcome State
bench_answer frame room = serve 8 capacity (T 0x07) (holding []) cluster true frame room

abbrev pub key : Key
key = record { cluster = record { 0 = cluster }; attribute = record { 0 = 5 } }

-- attribute 5's entry with a configuration, not marked
abbrev pub unmarked : ReportingConfig → Entry
unmarked config = record { key = key; config = config; marked = false; last_time = 0; last_value = pos 0 }

abbrev pub Answers : Table → List Asking → Type 0
Answers t [] = Unit
Answers t (a ∷ more) = ((ask_t key a.time a.value t).due ≡ a.due) × Answers t more

abbrev pub Holds : Claim → Type 0
Holds (serves frame room reply level) = bench_answer frame room ≡ replied room reply (state (T level) (holding []))
Holds (reports frame reply config time value asks) =
    (bench_answer frame 64 ≡ replied 64 reply (state (T 0x07) (holding (unmarked config ∷ []))))
    × Answers (mark_t key time value (bench_answer frame 64).state.table).table asks
Holds (numbers attribute z) = number_of 8 (T 0x07) attribute ≡ Ok z
Holds (changes t bytes n) = change_at bytes 0 t ≡ n

abbrev pub AllHold : List Claim → Type 0
AllHold [] = Unit
AllHold (c ∷ more) = Holds c × AllHold more

-- ---- the list

abbrev pub asking : ℕ → ℤ → Bool → Asking
asking time value due = record { time = time; value = value; due = due }

abbrev pub asks : List Asking
asks =
    asking 109 (pos 0) false
    ∷ asking 110 (negsuc 150) false
    ∷ asking 110 (negsuc 149) true
    ∷ asking 159 (negsuc 199) false
    ∷ asking 160 (negsuc 199) true
    ∷ asking 90 (pos 0) false
    ∷ []

-- minimum 10, maximum 60, change 50
abbrev pub configuration : ReportingConfig
configuration = record { min_interval = 10; max_interval = 60; reportable_change = 50; unsigned = false }

abbrev pub starred : List Claim
starred =
    -- 1, 2 and 3: read
    serves (0x00 ∷ 0x2a ∷ 0x00 ∷ 0x00 ∷ 0x00 ∷ 0x09 ∷ 0x00 ∷ []) 14 (0x18 ∷ 0x2a ∷ 0x01 ∷ 0x00 ∷ 0x00 ∷ 0x00 ∷ 0x23 ∷ 0x00 ∷ 0x00 ∷ 0x00 ∷ 0x80 ∷ 0x09 ∷ 0x00 ∷ 0x86 ∷ []) 0x07
    ∷ serves (0x00 ∷ 0x2a ∷ 0x00 ∷ 0x00 ∷ 0x00 ∷ 0x09 ∷ 0x00 ∷ []) 13 (0x18 ∷ 0x2a ∷ 0x01 ∷ 0x00 ∷ 0x00 ∷ 0x00 ∷ 0x23 ∷ 0x00 ∷ 0x00 ∷ 0x00 ∷ 0x80 ∷ []) 0x07
    ∷ serves (0x00 ∷ 0x2a ∷ 0x00 ∷ 0x00 ∷ 0x00 ∷ 0x09 ∷ 0x00 ∷ []) 10 (0x18 ∷ 0x2a ∷ 0x01 ∷ 0x00 ∷ 0x00 ∷ 0x89 ∷ 0x09 ∷ 0x00 ∷ 0x86 ∷ []) 0x07
    -- 5 and 6: write
    ∷ serves (0x00 ∷ 0x2b ∷ 0x02 ∷ 0x01 ∷ 0x00 ∷ 0x20 ∷ 0x09 ∷ []) 64 (0x18 ∷ 0x2b ∷ 0x04 ∷ 0x00 ∷ []) 0x09
    ∷ serves (0x00 ∷ 0x2b ∷ 0x02 ∷ 0x00 ∷ 0x00 ∷ 0x23 ∷ 0x01 ∷ 0x00 ∷ 0x00 ∷ 0x00 ∷ []) 64 (0x18 ∷ 0x2b ∷ 0x04 ∷ 0x88 ∷ 0x00 ∷ 0x00 ∷ []) 0x07
    -- 7: undivided, with document 02's request 2
    ∷ serves (0x00 ∷ 0x2b ∷ 0x03 ∷ 0x01 ∷ 0x00 ∷ 0x20 ∷ 0x09 ∷ 0x07 ∷ 0x00 ∷ 0x42 ∷ 0x05 ∷ 0x41 ∷ 0x42 ∷ 0x43 ∷ 0x44 ∷ 0x45 ∷ []) 64 (0x18 ∷ 0x2b ∷ 0x04 ∷ 0x87 ∷ 0x07 ∷ 0x00 ∷ []) 0x07
    -- 9, and with maximum 3; 10: discover
    ∷ serves (0x00 ∷ 0x2c ∷ 0x0c ∷ 0x01 ∷ 0x00 ∷ 0x02 ∷ []) 64 (0x18 ∷ 0x2c ∷ 0x0d ∷ 0x00 ∷ 0x01 ∷ 0x00 ∷ 0x20 ∷ 0x05 ∷ 0x00 ∷ 0x29 ∷ []) 0x07
    ∷ serves (0x00 ∷ 0x2c ∷ 0x0c ∷ 0x01 ∷ 0x00 ∷ 0x03 ∷ []) 64 (0x18 ∷ 0x2c ∷ 0x0d ∷ 0x01 ∷ 0x01 ∷ 0x00 ∷ 0x20 ∷ 0x05 ∷ 0x00 ∷ 0x29 ∷ 0x07 ∷ 0x00 ∷ 0x42 ∷ []) 0x07
    ∷ serves (0x00 ∷ 0x2c ∷ 0x0c ∷ 0x08 ∷ 0x00 ∷ 0x00 ∷ []) 64 (0x18 ∷ 0x2c ∷ 0x0d ∷ 0x01 ∷ []) 0x07
    -- 11: configure, mark, ask
    ∷ reports (0x00 ∷ 0x2d ∷ 0x06 ∷ 0x00 ∷ 0x05 ∷ 0x00 ∷ 0x29 ∷ 0x0a ∷ 0x00 ∷ 0x3c ∷ 0x00 ∷ 0x32 ∷ 0x00 ∷ []) (0x18 ∷ 0x2d ∷ 0x07 ∷ 0x00 ∷ []) configuration 100 (negsuc 199) asks
    -- 12: numbers, and a change
    ∷ numbers 0 (pos 2147483648)
    ∷ numbers 5 (negsuc 199)
    ∷ changes 0x28 (0x80 ∷ []) 128
    ∷ []

-- THE CLAIM
abbrev pub StarredFramesHold : Type 0
StarredFramesHold = AllHold starred
