-- One that is asked, in a table with these entries. Assumes nothing.
use Rattle.std.specs.Prelude.{Option, Result}
use mathlib.Core.Path.{◌≡◌, sym, ap, ◌∙◌}
use mathlib.Core.List.{List}
use Prim.Native.Nat.{ℕ}
use Rattle.frame.specs.declared.header.ZclHeader.{ZclHeader}
use Rattle.frame.specs.Inside.Buffer.{putting, put}
use Rattle.frame.proofs.Shortened.{turned_put}
use Rattle.reporting.specs.declared.entry.Key.{Key}
use Rattle.reporting.specs.declared.entry.Entry.{Entry}
use Rattle.types.specs.declared.ids.TypeId.{TypeId}
use Rattle.frame.specs.declared.status.Status.{Status}
use Rattle.configure.specs.Request.{asked}
use Rattle.configure.specs.Configuration.{encode, record_for}
use Rattle.configure.specs.Inside.{sought_by, Seeks, Answered}

-- what is put for what was sought is the answer
pub answered : (s : List ℕ) (l : List Entry) (request : ZclHeader) (direction id : ℕ) (x y : Result (Key × TypeId) Status) → Seeks s request direction id x → x ≡ y → (d : List ℕ) (out : ℕ) (p : Option ℕ) (after : List ℕ)
    → putting p after ≡ put d out (encode (sought_by l (asked direction id) y)) → Answered s l request direction id d out p after
answered s l request direction id x y seeks e d out p after g =
    turned_put encode (λ fit. record_for 8 s l request) (asked direction id) d out (sought_by l (asked direction id) y) (λ fit. sym (seeks l) ∙ ap (sought_by l (asked direction id)) e) p after g
