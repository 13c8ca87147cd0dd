-- The sizes of the four families, and of all codes against types/ids.rs, each by one computed test. Assumes nothing.
use Rattle.std.specs.Prelude.{Some}
use Prim.Native.Nat.{◌+◌, ◌%◌}
use mathlib.Core.Path.{refl, sym}
use mathlib.Core.Bool.{true}
use Rattle.types.specs.Ids.{size_of}
use Rattle.types.specs.Claims.Widths.{in_four, WidthsCounted, arms, size_by, SizesAsThere}
use Rattle.types.proofs.Sizes.{size_kind}

pub widths_counted : WidthsCounted
unfolding size_of
widths_counted t h e = sym (size_kind in_four (λ t. Some (t % 8 + 1)) 256 tt t h e)

pub sizes_as_there : SizesAsThere
unfolding size_of
sizes_as_there t h = sym (size_kind (λ t. true) (size_by arms) 256 tt t h refl)
