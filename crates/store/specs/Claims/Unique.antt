-- Claims. No second answer fits a contract: one claim for each public function, of two results and exit buffers that meet it at the same entry
-- values.
use Rattle.std.specs.Prelude.{ℤ, ℕ, ◌≡◌, Bool, List, take, drop, Option, Result}
use Rattle.store.specs.Layout.{is_text, text_length, is_store}
use Rattle.store.specs.Contents.{cluster_of, count_of, attribute_at, reportable, name_of, find_of}
use Rattle.store.specs.Value.{value_of, stored, telling, number_of}
use Rattle.store.specs.Write.{check_of, wrote, write_of}
use Rattle.store.specs.declared.lookup.Name.{Name}
use Rattle.store.specs.declared.lookup.Attribute.{Attribute}
use Rattle.frame.specs.declared.header.ManufacturerCode.{ManufacturerCode}
use Rattle.types.specs.declared.ids.AttributeId.{AttributeId}
use Rattle.types.specs.declared.ids.ClusterId.{ClusterId}
use Rattle.types.specs.declared.ids.TypeId.{TypeId}
use Rattle.frame.specs.declared.answer.Refusal.{Refusal}
use Rattle.frame.specs.declared.status.Status.{Status}

-- src/layout.rt
abbrev pub PartOnce : Type 0
PartOnce = (s : List ℕ) (from n : ℕ) (r q : List ℕ) → r ≡ take n (drop from s) → q ≡ take n (drop from s) → r ≡ q

abbrev pub IsTextOnce : Type 0
IsTextOnce = (a : Attribute) (r q : Bool) → r ≡ is_text a → q ≡ is_text a → r ≡ q

abbrev pub TextLengthOnce : Type 0
TextLengthOnce = (s : List ℕ) (a : Attribute) (r q : ℕ) → r ≡ text_length s a → q ≡ text_length s a → r ≡ q

abbrev pub IsStoreOnce : Type 0
IsStoreOnce = (s : List ℕ) (r q : Bool) → r ≡ is_store 8 s → q ≡ is_store 8 s → r ≡ q

-- src/lookup.rt
abbrev pub NameOfOnce : Type 0
NameOfOnce = (code : ManufacturerCode) (id : AttributeId) (r q : Name) → r.0 ≡ name_of code.0 id.0 → q.0 ≡ name_of code.0 id.0 → r ≡ q

abbrev pub ClusterOfOnce : Type 0
ClusterOfOnce = (s : List ℕ) (r q : ClusterId) → r.0 ≡ cluster_of s → q.0 ≡ cluster_of s → r ≡ q

abbrev pub CountOfOnce : Type 0
CountOfOnce = (s : List ℕ) (r q : ℕ) → r ≡ count_of s → q ≡ count_of s → r ≡ q

abbrev pub AttributeAtOnce : Type 0
AttributeAtOnce = (s : List ℕ) (i : ℕ) (r q : Attribute) → r ≡ attribute_at 8 s i → q ≡ attribute_at 8 s i → r ≡ q

abbrev pub IsReportableOnce : Type 0
IsReportableOnce = (a : Attribute) (r q : Bool) → r ≡ reportable a → q ≡ reportable a → r ≡ q

abbrev pub FindOnce : Type 0
FindOnce = (s : List ℕ) (name : Name) (r q : Option Attribute) → r ≡ find_of 8 s name.0 → q ≡ find_of 8 s name.0 → r ≡ q

-- src/value.rt
abbrev pub ValueOfOnce : Type 0
ValueOfOnce = (s : List ℕ) (a : Attribute) (r q : List ℕ) → r ≡ value_of s a → q ≡ value_of s a → r ≡ q

abbrev pub WriteValueOnce : Type 0
WriteValueOnce = (s : List ℕ) (a : Attribute) (value : List ℕ) (x y : List ℕ) → x ≡ stored s a value → y ≡ stored s a value → x ≡ y

abbrev pub NumberOfOnce : Type 0
NumberOfOnce =
    (s : List ℕ) (name : Name) (r q : Result ℤ Refusal)
    → telling r ≡ telling (number_of 8 s name.0)
    → telling q ≡ telling (number_of 8 s name.0)
    → r ≡ q

-- src/write.rt
abbrev pub CheckWriteOnce : Type 0
CheckWriteOnce =
    (s : List ℕ) (name : Name) (type_id : TypeId) (value : List ℕ) (r q : Result Attribute Status)
    → r ≡ check_of (find_of 8 s name.0) type_id.0 value
    → q ≡ check_of (find_of 8 s name.0) type_id.0 value
    → r ≡ q

abbrev pub WriteOnce : Type 0
WriteOnce =
    (s : List ℕ) (name : Name) (type_id : TypeId) (value : List ℕ) (r q : Status) (x y : List ℕ)
    → wrote r x ≡ write_of 8 s name.0 type_id.0 value
    → wrote q y ≡ write_of 8 s name.0 type_id.0 value
    → (r ≡ q) × (x ≡ y)
