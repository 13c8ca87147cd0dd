-- Claims. A scene over store T (Bench.antt), computed: what all or nothing (AllOrNothing.antt) comes to. Attribute 1 is a lamp's level, attribute 7 a name of up to four characters.
use Rattle.std.specs.Prelude.{◌≡◌, List, [], ◌∷◌, ◌++◌, ℕ}
use Rattle.frame.specs.declared.header.ZclHeader.{ZclHeader}
use Rattle.frame.specs.Answer.{replied}
use Rattle.reporting.specs.Table.{holding}
use Rattle.write.specs.Request.{records}
use Rattle.write.specs.Claims.Last.{last_value}
use Rattle.server.specs.Serve.{state}
use Rattle.server.specs.Claims.Bench.{contents, T, bench_answer}

-- T with this level and this body of attribute 7
abbrev pub furnished : ℕ → List ℕ → List ℕ
furnished level name = contents ++ ((0x00 ∷ 0x00 ∷ 0x00 ∷ 0x80 ∷ level ∷ 0x38 ∷ 0xff ∷ []) ++ name)

-- three records: level 9, a name, and level 10
abbrev pub scene : List ℕ → List ℕ
scene name = (0x01 ∷ 0x00 ∷ 0x20 ∷ 0x09 ∷ 0x07 ∷ 0x00 ∷ 0x42 ∷ []) ++ (name ++ (0x01 ∷ 0x00 ∷ 0x20 ∷ 0x0a ∷ []))

abbrev pub sent : List ℕ → List ℕ
sent name = (0x00 ∷ 0x2b ∷ 0x03 ∷ []) ++ scene name

abbrev pub header : ZclHeader
header =
    record {
      frame_control = record { 0 = 0x00 };
      manufacturer_code = record { 0 = 0 };
      sequence_number = 0x2b;
      command_identifier = record { 0 = 0x03 };
      body = 3;
    }

-- "AB"; a string of length ff, invalid; "ABCDE", too long
abbrev pub short : List ℕ
short = 0x02 ∷ 0x41 ∷ 0x42 ∷ []

abbrev pub none : List ℕ
none = 0xff ∷ []

abbrev pub wordy : List ℕ
wordy = 0x05 ∷ 0x41 ∷ 0x42 ∷ 0x43 ∷ 0x44 ∷ 0x45 ∷ []

abbrev pub success : List ℕ
success = 0x18 ∷ 0x2b ∷ 0x04 ∷ 0x00 ∷ []

pub record ScenesAre : Type 0 where
  -- all: the level is that of the last record, the name is there with zeros behind it
  pub all : bench_answer (sent short) 4 ≡ replied 4 success (state (furnished 0x0a (0x02 ∷ 0x41 ∷ 0x42 ∷ 0x00 ∷ 0x00 ∷ [])) (holding []))
  pub invalid : bench_answer (sent none) 4 ≡ replied 4 success (state (furnished 0x0a (0xff ∷ 0x00 ∷ 0x00 ∷ 0x00 ∷ 0x00 ∷ [])) (holding []))
  -- nothing: the second record is too long
  pub nothing : bench_answer (sent wordy) 64 ≡ replied 64 (0x18 ∷ 0x2b ∷ 0x04 ∷ 0x87 ∷ 0x07 ∷ 0x00 ∷ []) (state (T 0x07) (holding []))
  -- the last record naming each: of the lamp, of the name, and of attribute 5, which none names
  pub lamp : last_value header 1 (records (scene short)).list (0x07 ∷ []) ≡ 0x0a ∷ []
  pub name : last_value header 7 (records (scene short)).list (0x02 ∷ 0x54 ∷ 0x56 ∷ []) ≡ short
  pub other : last_value header 5 (records (scene short)).list (0x38 ∷ 0xff ∷ []) ≡ 0x38 ∷ 0xff ∷ []
