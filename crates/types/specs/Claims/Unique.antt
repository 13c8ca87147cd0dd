-- Claims. No second answer fits a contract: one claim for each public function, of two results and exit buffers that meet it at the same entry
-- values.
use Rattle.std.specs.Prelude.{ℕ, min, ◌≡◌, Bool, List, ℤ, nat_abs, get_or, Option, Result}
use Rattle.types.specs.Extent.{extent_of}
use Rattle.types.specs.Ids.{size_of, shape_of, is_analog, is_reportable, is_signed, is_float}
use Rattle.std.proofs.lemmas.List.Edits.{sets}
use Rattle.types.specs.Number.{all_zero, bytes_of, unsigned_at, signed_at, signed_of}
use Rattle.types.specs.Value.{number_at, change_at}
use Rattle.types.specs.declared.extent.NoExtent.{NoExtent}
use Rattle.types.specs.declared.ids.TypeId.{TypeId}
use Rattle.types.specs.declared.ids.Shape.{Shape}

-- src/extent.rt
abbrev pub ExtentAtOnce : Type 0
ExtentAtOnce = (s : List ℕ) (p : ℕ) (type_id : TypeId) (r q : Result ℕ NoExtent) → r ≡ extent_of s p type_id.0 → q ≡ extent_of s p type_id.0 → r ≡ q

-- src/ids.rt
abbrev pub FixedSizeOnce : Type 0
FixedSizeOnce = (self : TypeId) (r q : Option ℕ) → r ≡ size_of self.0 → q ≡ size_of self.0 → r ≡ q

abbrev pub ShapeOnce : Type 0
ShapeOnce = (self : TypeId) (r q : Shape) → r ≡ shape_of self.0 → q ≡ shape_of self.0 → r ≡ q

abbrev pub IsAnalogOnce : Type 0
IsAnalogOnce = (self : TypeId) (r q : Bool) → r ≡ is_analog self.0 → q ≡ is_analog self.0 → r ≡ q

abbrev pub IsReportableTypeOnce : Type 0
IsReportableTypeOnce = (self : TypeId) (r q : Bool) → r ≡ is_reportable self.0 → q ≡ is_reportable self.0 → r ≡ q

abbrev pub IsSignedOnce : Type 0
IsSignedOnce = (self : TypeId) (r q : Bool) → r ≡ is_signed self.0 → q ≡ is_signed self.0 → r ≡ q

abbrev pub IsFloatOnce : Type 0
IsFloatOnce = (self : TypeId) (r q : Bool) → r ≡ is_float self.0 → q ≡ is_float self.0 → r ≡ q

-- src/number.rt
abbrev pub ByteAtOnce : Type 0
ByteAtOnce = (s : List ℕ) (at : ℕ) (r q : ℕ) → r ≡ get_or s at 0 → q ≡ get_or s at 0 → r ≡ q

abbrev pub AllZeroOnce : Type 0
AllZeroOnce = (s : List ℕ) (r q : Bool) → r ≡ all_zero s → q ≡ all_zero s → r ≡ q

abbrev pub U16AtOnce : Type 0
U16AtOnce = (s : List ℕ) (at : ℕ) (r q : ℕ) → r ≡ unsigned_at s at 2 → q ≡ unsigned_at s at 2 → r ≡ q

abbrev pub UnsignedAtOnce : Type 0
UnsignedAtOnce = (s : List ℕ) (at width : ℕ) (r q : ℕ) → r ≡ unsigned_at s at (min width 8) → q ≡ unsigned_at s at (min width 8) → r ≡ q

abbrev pub BitsI64Once : Type 0
BitsI64Once = (x : ℕ) (r q : ℤ) → r ≡ signed_of 8 x → q ≡ signed_of 8 x → r ≡ q

abbrev pub SignedAtOnce : Type 0
SignedAtOnce = (s : List ℕ) (at width : ℕ) (r q : ℤ) → r ≡ signed_at s at (min width 8) → q ≡ signed_at s at (min width 8) → r ≡ q

abbrev pub MagnitudeOnce : Type 0
MagnitudeOnce = (x : ℤ) (r q : ℕ) → r ≡ nat_abs x → q ≡ nat_abs x → r ≡ q

abbrev pub PutLeOnce : Type 0
PutLeOnce = (out : List ℕ) (at width n : ℕ) (x y : List ℕ) → x ≡ sets out at (bytes_of width n) → y ≡ sets out at (bytes_of width n) → x ≡ y

abbrev pub LeBytesOnce : Type 0
LeBytesOnce = (n : ℕ) (r q : List ℕ) → r ≡ bytes_of 8 n → q ≡ bytes_of 8 n → r ≡ q

-- src/value.rt
abbrev pub NumberAtOnce : Type 0
NumberAtOnce = (s : List ℕ) (at : ℕ) (type_id : TypeId) (r q : Option ℤ) → r ≡ number_at s at type_id.0 → q ≡ number_at s at type_id.0 → r ≡ q

abbrev pub ChangeAtOnce : Type 0
ChangeAtOnce = (s : List ℕ) (at : ℕ) (type_id : TypeId) (r q : ℕ) → r ≡ change_at s at type_id.0 → q ≡ change_at s at type_id.0 → r ≡ q
