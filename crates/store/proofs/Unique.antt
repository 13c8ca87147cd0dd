-- No second answer fits a contract: one theorem for each public function, of two results and exit buffers that meet it at the same
-- entry values. Assumes nothing.
use Rattle.std.specs.Prelude.{ℤ, Err, Ok, Result}
use Prim.Native.Nat.{ℕ}
use mathlib.Core.Path.{◌≡◌, sym, ap, ◌∙◌}
use mathlib.Core.List.{List}
use Rattle.store.specs.Value.{Telling, telling}
use Rattle.store.specs.Write.{Wrote, wrote}
use Rattle.frame.specs.declared.answer.Refusal.{Refusal}
use Rattle.frame.specs.declared.status.Status.{Status}
use native.Mathlib.Omega.{arith}
use Rattle.frame.proofs.Codes.{refusal_same, refusal_nonzero}
use Rattle.store.specs.Claims.Unique.{PartOnce, IsTextOnce, TextLengthOnce, IsStoreOnce, NameOfOnce, ClusterOfOnce, CountOfOnce, AttributeAtOnce}
use Rattle.store.specs.Claims.Unique.{IsReportableOnce, FindOnce, ValueOfOnce, WriteValueOnce, NumberOfOnce, CheckWriteOnce, WriteOnce}

-- the laws of what a contract sees

-- what is said of a number tells which it is
pub telling_same : (a b : Result ℤ Refusal) → telling a ≡ telling b → a ≡ b
telling_same a b p = go a b (ap (λ (x : Telling). x.answer) p) (ap (λ (x : Telling). x.value) p)
  where
    go : (a b : Result ℤ Refusal) → (telling a).answer ≡ (telling b).answer → (telling a).value ≡ (telling b).value → a ≡ b
    go (Ok y) (Ok z) n v = ap Ok v
    go (Ok y) (Err w) n v = absurd (omega (arith, refusal_nonzero w))
    go (Err u) (Ok z) n v = absurd (omega (arith, refusal_nonzero u))
    go (Err u) (Err w) n v = ap Err (refusal_same u w n)

-- what a write leaves tells its status and the store
pub wrote_same : (a b : Status) (s t : List ℕ) → wrote a s ≡ wrote b t → (a ≡ b) × (s ≡ t)
wrote_same a b s t p = (ap (λ (x : Wrote). x.status) p, ap (λ (x : Wrote). x.store) p)

-- src/layout.rt
pub part_once : PartOnce
part_once s from n r q e f = e ∙ sym f

pub is_text_once : IsTextOnce
is_text_once a r q e f = e ∙ sym f

pub text_length_once : TextLengthOnce
text_length_once s a r q e f = e ∙ sym f

pub is_store_once : IsStoreOnce
is_store_once s r q e f = e ∙ sym f

-- src/lookup.rt
pub name_of_once : NameOfOnce
name_of_once code id r q e f = ap (λ (n : ℕ). record { 0 = n }) (e ∙ sym f)

pub cluster_of_once : ClusterOfOnce
cluster_of_once s r q e f = ap (λ (n : ℕ). record { 0 = n }) (e ∙ sym f)

pub count_of_once : CountOfOnce
count_of_once s r q e f = e ∙ sym f

pub attribute_at_once : AttributeAtOnce
attribute_at_once s i r q e f = e ∙ sym f

pub is_reportable_once : IsReportableOnce
is_reportable_once a r q e f = e ∙ sym f

pub find_once : FindOnce
find_once s name r q e f = e ∙ sym f

-- src/value.rt
pub value_of_once : ValueOfOnce
value_of_once s a r q e f = e ∙ sym f

pub write_value_once : WriteValueOnce
write_value_once s a value x y e f = e ∙ sym f

pub number_of_once : NumberOfOnce
number_of_once s name r q e f = telling_same r q (e ∙ sym f)

-- src/write.rt
pub check_write_once : CheckWriteOnce
check_write_once s name type_id value r q e f = e ∙ sym f

pub write_once : WriteOnce
write_once s name type_id value r q x y e f = wrote_same r q x y (e ∙ sym f)
