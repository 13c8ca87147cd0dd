-- Claims. What does not affect an answer: direction and the other control bits, and the manufacturer code (document 01, "Frames and values", Header).
use Rattle.std.specs.Prelude.{◌≡◌, ℕ, ◌+◌, ◌/◌, ◌%◌, Bool, List, ◌∷◌}
use Rattle.reporting.specs.Table.{Table}
use Rattle.server.specs.Serve.{serve}
use Rattle.server.specs.UnsupportedCluster.{unsupported_cluster}

-- control bits 3 to 7 do not affect the answer
abbrev pub ControlBitsDoNotMatter : Type 0
ControlBitsDoNotMatter =
    (form limit : ℕ) (s : List ℕ) (t : Table) (cluster : ℕ) (unicast : Bool) (room control other : ℕ) (rest : List ℕ) → control % 8 ≡ other % 8
    → serve form limit s t cluster unicast (control ∷ rest) room ≡ serve form limit s t cluster unicast (other ∷ rest) room

-- nor does the manufacturer code: a frame answers as it does without bit 2 and the two bytes
abbrev pub ManufacturerCodeDoesNotMatter : Type 0
ManufacturerCodeDoesNotMatter =
    (form limit : ℕ) (s : List ℕ) (t : Table) (cluster : ℕ) (unicast : Bool) (room control a b : ℕ) (rest : List ℕ) → control / 4 % 2 ≡ 0
    → serve form limit s t cluster unicast ((control + 4) ∷ a ∷ b ∷ rest) room ≡ serve form limit s t cluster unicast (control ∷ rest) room

-- control bits 3 to 7 do not affect the responder's answer
abbrev pub ResponderControlBitsDoNotMatter : Type 0
ResponderControlBitsDoNotMatter =
    (served : List ℕ) (cluster : ℕ) (unicast : Bool) (room control other : ℕ) (rest : List ℕ) → control % 8 ≡ other % 8
    → unsupported_cluster served cluster unicast (control ∷ rest) room ≡ unsupported_cluster served cluster unicast (other ∷ rest) room

-- nor does the manufacturer code: a frame answers as it does without bit 2 and the two bytes
abbrev pub ResponderManufacturerCodeDoesNotMatter : Type 0
ResponderManufacturerCodeDoesNotMatter =
    (served : List ℕ) (cluster : ℕ) (unicast : Bool) (room control a b : ℕ) (rest : List ℕ) → control / 4 % 2 ≡ 0
    → unsupported_cluster served cluster unicast ((control + 4) ∷ a ∷ b ∷ rest) room ≡ unsupported_cluster served cluster unicast (control ∷ rest) room
