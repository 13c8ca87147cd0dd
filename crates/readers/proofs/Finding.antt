-- What holds of the value of every attribute that is found holds of the records made of them: each record of a read reply, and all of a
-- report. Assumes nothing.
use Rattle.std.specs.Prelude.{None, Option, Some}
use mathlib.Core.Path.{◌≡◌, refl}
use mathlib.Core.Bool.{Bool, true, false, cond}
use mathlib.Core.List.{List, [], ◌∷◌, ◌++◌}
use Prim.Native.Nat.{ℕ}
use native.Mathlib.Omega.{arith}
use Rattle.frame.specs.declared.header.ZclHeader.{ZclHeader}
use Rattle.frame.specs.declared.status.Status.TheVariants.{UnsupportedAttribute, InsufficientSpace}
use Rattle.frame.specs.declared.answer.Refusal.TheVariants.{ReplyTooLong, NotReportable}
use Rattle.frame.specs.Status.{status_code}
use Rattle.frame.specs.Walk.{done, All}
use Rattle.frame.specs.Encoded.{fits}
use Rattle.frame.proofs.Walks.{all_snoc, walk_keeps}
use Rattle.store.specs.declared.lookup.Attribute.{Attribute}
use Rattle.store.specs.Contents.{name_of, find_of, reportable}
use Rattle.store.specs.Value.{value_of}
use Rattle.read.specs.Read.{ReadRecord, value, failure, record_by, record_for}
use Rattle.report.specs.Report.{ReportRecord, encode, record_of, Reported, all, trouble, report_by, report_one, goes_on, report_from}
use Rattle.readers.specs.Claims.Sendable.{Failed}

-- ---- a read: the record of an id is a value that was found, or a failure

module _ (form : ℕ) (s : List ℕ) (h : ZclHeader) (Good : ReadRecord → Type 0) (id : ℕ)
    (finds : (a : Attribute) → find_of form s (name_of h.manufacturer_code.0 id) ≡ Some a → Good (value id a.type_id.0 (value_of s a)))
    (fails : (status : ℕ) → Failed status → Good (failure id status)) where
  made_by : (fit : ReadRecord → Bool) (f : Option Attribute) → find_of form s (name_of h.manufacturer_code.0 id) ≡ f → Good (record_by s fit id f)
  unfolding record_by
  made_by fit None e = fails (status_code UnsupportedAttribute) (λ z. omega arith)
  made_by fit (Some a) e = go (fit (value id a.type_id.0 (value_of s a)))
    where
      go : (x : Bool) → Good (cond x (value id a.type_id.0 (value_of s a)) (failure id (status_code InsufficientSpace)))
      go true = finds a e
      go false = fails (status_code InsufficientSpace) (λ z. omega arith)

  pub made_read : (fit : ReadRecord → Bool) → Good (record_for form s h fit id)
  unfolding record_for
  made_read fit = made_by fit (find_of form s (name_of h.manufacturer_code.0 id)) refl

-- ---- a report, if it is made

abbrev pub Reports : (ReportRecord → Type 0) → Reported → Type 0
Reports Good (all rs) = All Good rs
Reports Good (trouble why) = Unit {0}

module _ (form : ℕ) (s : List ℕ) (room head : ℕ) (Good : ReportRecord → Type 0) (Fine : ℕ → Type 0)
    (finds : (id : ℕ) → Fine id → (a : Attribute) → find_of form s (name_of 0 id) ≡ Some a → Good (record_of s id a)) where
  reports_by : (rs : List ReportRecord) (id : ℕ) → All Good rs → Fine id → (f : Option Attribute) → find_of form s (name_of 0 id) ≡ f → Reports Good (report_by s room head rs id f)
  reports_by rs id h b (Some a) e = go (reportable a) (fits encode room head longer)
    where
      longer : List ReportRecord
      longer = rs ++ (record_of s id a ∷ [])

      go : (x y : Bool) → Reports Good (cond x (cond y (all longer) (trouble ReplyTooLong)) (trouble NotReportable))
      go true true = all_snoc Good rs (record_of s id a) h (finds id b a e)
      go true false = tt
      go false y = tt
  reports_by rs id h b None e = tt

  reports_turn : (y : Reported) (id : ℕ) → Reports Good y → Fine id → Reports Good (report_one form s room head y id)
  reports_turn (all rs) id h b = reports_by rs id h b (find_of form s (name_of 0 id)) refl
  reports_turn (trouble why) id h b = tt

  pub made_report : (ids : List ℕ) → All Fine ids → Reports Good (report_from form s room head [] ids)
  unfolding report_from
  made_report ids t = walk_keeps (report_one form s room head) goes_on (Reports Good) Fine reports_turn done ids (all []) tt t
