-- Claims. Report turns over store T (Bench.antt), computed: all that is due goes into one frame, as many as fit, above the last id and going round. And turns that meet what fairness supposes (Turns.antt).
use Rattle.std.specs.Prelude.{◌≡◌, false, List, [], ◌∷◌, ◌++◌, ℕ, ◌≤◌, length}
use Rattle.frame.specs.Encoded.{encode_all}
use Rattle.reporting.specs.declared.entry.Entry.{Entry}
use Rattle.reporting.specs.Entries.{fresh}
use Rattle.reporting.specs.Table.{capacity}
use Rattle.report.specs.Turn.{Turn, turn_for, key_of, record_in}
use Rattle.report.specs.Claims.Words.{Each, OneOf}
use Rattle.report.specs.Claims.Turns.{frame_of, given_back, turned}
use Rattle.report.specs.Claims.History.{Met, Handed}
use Rattle.report.specs.Claims.Fairness.{count, of_cluster, found, reported, StoresOfBytes, Standing, EachAlone}
use Rattle.server.specs.Claims.Bench.{T}
use Rattle.server.specs.Claims.History.{Use, turn}
use Rattle.server.specs.Claims.Turns.{happenings, turns_in}

abbrev pub entry : ℕ → Entry
entry id = fresh (key_of 0xfc21 id) (record { min_interval = 10; max_interval = 60; reportable_change = 50; unsigned = false })

-- attribute 1 is not reportable, and T has no attribute 9; the table's order does not matter
abbrev pub entries : List Entry
entries = entry 5 ∷ entry 9 ∷ entry 1 ∷ entry 0 ∷ []

abbrev pub no_id : ℕ
no_id = 0x10000

abbrev pub turn_at : ℕ → ℕ → ℕ → Turn
turn_at last now room = turn_for (T 0x07) 0x2e last now room

-- ---- what a turn sends behind its header, and the id that it gives back

pub record Shown : Type 0 where
  pub records : List ℕ
  pub last : ℕ

abbrev pub shows : Turn → List Entry → Shown
shows u l = record { records = encode_all (record_in u.store) (frame_of 8 u l); last = given_back 8 u l }

abbrev pub these : List ℕ → ℕ → Shown
these records last = record { records = records; last = last }

-- the records of attributes 0 and 5
abbrev pub zeroth : List ℕ
zeroth = 0x00 ∷ 0x00 ∷ 0x23 ∷ 0x00 ∷ 0x00 ∷ 0x00 ∷ 0x80 ∷ []

abbrev pub fifth : List ℕ
fifth = 0x05 ∷ 0x00 ∷ 0x29 ∷ 0x38 ∷ 0xff ∷ []

pub record TurnsAre : Type 0 where
  -- all that is due
  pub both : shows (turn_at no_id 100 15) entries ≡ these (zeroth ++ fifth) 5
  -- as many as fit
  pub one : shows (turn_at no_id 100 14) entries ≡ these zeroth 0
  -- above the last id first, then going round
  pub around : shows (turn_at 0 100 15) entries ≡ these (fifth ++ zeroth) 0
  -- the first does not fit: nothing is written, though the second would fit, and the id comes back as it came
  pub full : shows (turn_at 9 100 9) entries ≡ these [] 9
  -- nine seconds after a turn that wrote all nothing is due
  pub quiet : shows (turn_at 5 109 15) (turned 8 (turn_at no_id 100 15) entries) ≡ these [] 5

-- ---- two entries, room for one record, and two turns that find attribute 5 due

abbrev pub pair : List Entry
pair = entry 5 ∷ entry 0 ∷ []

abbrev pub twice : List Use
twice = turn (turn_at no_id 100 10) ∷ turn (turn_at 0 101 10) ∷ []

abbrev pub met : List Met
met = turns_in capacity 0xfc21 twice pair

pub record FairnessMet : Type 0 where
  pub standing : Standing 0xfc21 (happenings capacity twice pair)
  pub bytes : StoresOfBytes met
  pub handed : Handed 8 met
  pub alone : EachAlone 8 met
  pub enough : count (of_cluster 0xfc21) pair ≤ length met
  pub due : Each (found 8 5) met
  -- so it is in one of their frames
  pub reports : OneOf (reported 8 5) met
