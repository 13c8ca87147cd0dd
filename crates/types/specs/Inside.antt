-- Inside. What inner functions say; nothing that a caller must believe.
use Rattle.std.specs.Prelude.{ℕ, zero, suc, Err, Ok, Result}
use Rattle.types.specs.declared.extent.NoExtent.{NoExtent}
use Rattle.types.specs.declared.extent.NoExtent.TheVariants.{Cut, Without}

-- an extent as a number, of values that start at 2 or behind: their end, or what 0 and 1 say
abbrev pub ended : ℕ → Result ℕ NoExtent
ended zero = Err Without
ended (suc zero) = Err Cut
ended (suc (suc q)) = Ok (suc (suc q))
