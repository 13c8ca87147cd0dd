-- No second answer fits a contract: one theorem for each public function, of two results and exit buffers that meet it at the same
-- entry values. Assumes nothing.
use mathlib.Core.Path.{sym, ◌∙◌}
use Rattle.types.specs.Claims.Unique.{ExtentAtOnce, FixedSizeOnce, ShapeOnce, IsAnalogOnce, IsReportableTypeOnce, IsSignedOnce, IsFloatOnce, ByteAtOnce}
use Rattle.types.specs.Claims.Unique.{AllZeroOnce, U16AtOnce, UnsignedAtOnce, BitsI64Once, SignedAtOnce, MagnitudeOnce, PutLeOnce, LeBytesOnce, NumberAtOnce}
use Rattle.types.specs.Claims.Unique.{ChangeAtOnce}

-- src/extent.rt
pub extent_at_once : ExtentAtOnce
extent_at_once s p type_id r q e f = e ∙ sym f

-- src/ids.rt
pub fixed_size_once : FixedSizeOnce
fixed_size_once self r q e f = e ∙ sym f

pub shape_once : ShapeOnce
shape_once self r q e f = e ∙ sym f

pub is_analog_once : IsAnalogOnce
is_analog_once self r q e f = e ∙ sym f

pub is_reportable_type_once : IsReportableTypeOnce
is_reportable_type_once self r q e f = e ∙ sym f

pub is_signed_once : IsSignedOnce
is_signed_once self r q e f = e ∙ sym f

pub is_float_once : IsFloatOnce
is_float_once self r q e f = e ∙ sym f

-- src/number.rt
pub byte_at_once : ByteAtOnce
byte_at_once s at r q e f = e ∙ sym f

pub all_zero_once : AllZeroOnce
all_zero_once s r q e f = e ∙ sym f

pub u16_at_once : U16AtOnce
u16_at_once s at r q e f = e ∙ sym f

pub unsigned_at_once : UnsignedAtOnce
unsigned_at_once s at width r q e f = e ∙ sym f

pub bits_i64_once : BitsI64Once
bits_i64_once x r q e f = e ∙ sym f

pub signed_at_once : SignedAtOnce
signed_at_once s at width r q e f = e ∙ sym f

pub magnitude_once : MagnitudeOnce
magnitude_once x r q e f = e ∙ sym f

pub put_le_once : PutLeOnce
put_le_once out at width n x y e f = e ∙ sym f

pub le_bytes_once : LeBytesOnce
le_bytes_once n r q e f = e ∙ sym f

-- src/value.rt
pub number_at_once : NumberAtOnce
number_at_once s at type_id r q e f = e ∙ sym f

pub change_at_once : ChangeAtOnce
change_at_once s at type_id r q e f = e ∙ sym f
