-- Claims. What the three answers about a value's end mean when bytes come behind (document 01: "cut or without extent").
use Rattle.std.specs.Prelude.{ℕ, ◌≡◌, List, ◌++◌, Err, Ok, Result}
use Rattle.types.specs.Extent.{extent_of}
use Rattle.types.specs.declared.extent.NoExtent.{NoExtent}
use Rattle.types.specs.declared.extent.NoExtent.TheVariants.{Cut, Without}

-- a value that ends, ends there whatever comes behind
abbrev pub ExtentStable : Type 0
ExtentStable = (a b : List ℕ) (p t e : ℕ) → extent_of a p t ≡ Ok e → extent_of (a ++ b) p t ≡ Ok e

-- a value without extent has none whatever comes behind
abbrev pub WithoutStable : Type 0
WithoutStable = (a b : List ℕ) (p t : ℕ) → extent_of a p t ≡ Err Without → extent_of (a ++ b) p t ≡ Err Without

abbrev pub NotCut : Result ℕ NoExtent → Type 0
NotCut (Ok e) = Unit {0}
NotCut (Err Cut) = ⊥
NotCut (Err Without) = Unit {0}

-- a cut value is cut only because the slice ends: some bytes behind settle where it ends, or that it has no extent
abbrev pub ExtentSettled : Type 0
ExtentSettled = (s : List ℕ) (p t : ℕ) → (b : List ℕ) × NotCut (extent_of (s ++ b) p t)
