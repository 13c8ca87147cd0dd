-- Definitions. What ours says of the types that have a name (kind i).
use Rattle.std.specs.Prelude.{ℕ, zero, suc, Bool, true, false, cond, List, [], ◌∷◌, None, Option, Some}
use Rattle.types.specs.Ids.{shape_of}
use Rattle.types.specs.declared.ids.Shape.{Shape}
use Rattle.types.specs.declared.ids.Shape.TheVariants.{Fixed, Text, LongText, Series, Structure, Unknown}
use Rattle.replay.specs.Bytes.{same}

abbrev pub is_known : Shape → Bool
is_known (Fixed w) = true
is_known Text = true
is_known LongText = true
is_known Series = true
is_known Structure = true
is_known Unknown = false

-- of n codes from a code on those whose values have a form
unfoldable pub known_from : ℕ → ℕ → List ℕ
known_from zero code = []
known_from (suc n) code = let more : List ℕ = known_from n (suc code) in cond (is_known (shape_of code)) (code ∷ more) more

-- a type has a name where its values have a form
unfoldable pub named : List ℕ
named = known_from 256 0

-- ---- i: 55, as many as have a name

-- their codes
unfoldable pub of_names : List ℕ → Option (List ℕ)
of_names input = cond (same (55 ∷ []) input) (Some named) None
