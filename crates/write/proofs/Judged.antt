-- Records judged over one store: the failures of a pass that only checks, and of one that writes (specs/Claims/Undivided.antt). Assumes nothing.
use Rattle.std.specs.Prelude.{Err, Ok, Result}
use mathlib.Core.Path.{◌≡◌, refl, sym, ap, ◌∙◌}
use mathlib.Core.Bool.{Bool, true, false}
use mathlib.Core.List.{List, [], ◌∷◌}
use Prim.Native.Nat.{ℕ, ◌≤◌}
use Rattle.frame.specs.declared.header.ZclHeader.{ZclHeader}
use Rattle.frame.specs.Walk.{Ending, done, cut, Records, Way, reached, All}
use Rattle.frame.specs.Failures.{Sofar, sofar, pass_from, pass, always}
use Rattle.frame.proofs.Walks.{any}
use Rattle.frame.proofs.States.{folded, pass_keeps}
use Rattle.frame.proofs.Failing.{Closed, over, Halts, all-fit, some_halts}
use Rattle.frame.specs.declared.status.Status.{Status}
use Rattle.store.specs.declared.lookup.Attribute.{Attribute}
use Rattle.store.specs.Contents.{name_of, find_in, find_of}
use Rattle.store.specs.Layout.{is_store}
use Rattle.store.specs.Write.{check_of, Wrote, write_by, write_of}
use Rattle.store.specs.Claims.Stays.{StoreLike}
use Rattle.write.specs.Request.{WriteRecord, records}
use Rattle.write.specs.Reply.{Failure}
use Rattle.write.specs.Write.{written, checked, listing, writing, written_all}
use Rattle.write.specs.Claims.Undivided.{status_over, failing, failures_of, ChecksFail, WritesFail, NoneArises}
use Rattle.write.proofs.Items.{Whole, records_whole}
use Rattle.write.proofs.Kept.{record_alike}

pub always_closed : Closed {F = Failure} always
always_closed a b e = refl

-- ---- a pass that only checks, by a check that over s says what the one check says of records with Q

module _ (form : ℕ) (request : ZclHeader) (s : List ℕ) (check : List ℕ → WriteRecord → Wrote) (leaves : (t : List ℕ) (r : WriteRecord) → (check t r).store ≡ t)
    (Q : WriteRecord → Type 0) (agrees : (r : WriteRecord) → Q r → (check s r).status ≡ status_over form request s r) where
  same : (t : List ℕ) (r : WriteRecord) → t ≡ s → Q r → (check t r).status ≡ status_over form request s r
  same t r e q = ap (λ (u : List ℕ). (check u r).status) e ∙ agrees r q

  keep : (t : List ℕ) (r : WriteRecord) → t ≡ s → Q r → (check t r).store ≡ s
  keep t r e q = leaves t r ∙ e

  unmoved : (rs : List WriteRecord) → folded (listing check) s rs ≡ s
  unmoved [] = refl
  unmoved (r ∷ rs) = ap (λ (t : List ℕ). folded (listing check) t rs) (leaves s r) ∙ unmoved rs

  module _ (rs : Records WriteRecord) (all : All Q rs.list) (fine : List Failure → Bool) where
    -- the failures fit: every record was checked
    pub judged_fit : Closed fine → fine (failing form request s rs.list) ≡ true → pass (listing check) fine rs s ≡ over rs.ending (sofar s (failing form request s rs.list))
    unfolding pass_from
    judged_fit closed f =
        all-fit (listing check) (λ t. t ≡ s) Q (status_over form request s) same keep fine closed rs.ending rs.list s [] refl all f
        ∙ ap (λ (t : List ℕ). over rs.ending (sofar t (failing form request s rs.list))) (unmoved rs.list)

    -- they do not: it halts, and the store is as it was
    pub judged_halts : Closed fine → fine [] ≡ true → fine (failing form request s rs.list) ≡ false → Halts (pass (listing check) fine rs s)
    unfolding pass_from
    judged_halts closed e f = some_halts (listing check) (λ t. t ≡ s) Q (status_over form request s) same keep fine closed rs.ending rs.list s [] refl all e f

    pub halted_left : (h : Halts (pass (listing check) fine rs s)) → h.after.state ≡ s
    halted_left h =
        ap (λ (w : Way (Sofar (List ℕ) Failure)). (reached w).state) (sym h.is) ∙ pass_keeps (listing check) (λ t. t ≡ s) Q keep rs all fine s refl

-- ---- the one check

module _ (form : ℕ) (request : ZclHeader) (s : List ℕ) where
  pub checked_leaves : (t : List ℕ) (r : WriteRecord) → (checked form request t r).store ≡ t
  unfolding checked
  checked_leaves t r = refl

  pub checked_agrees : (r : WriteRecord) → Unit {0} → (checked form request s r).status ≡ status_over form request s r
  unfolding checked
  checked_agrees r u = refl

reached_over : (e : Ending) (x : Sofar (List ℕ) Failure) → reached (over e x) ≡ x
reached_over done x = refl
reached_over cut x = refl

pub checks_fail : ChecksFail
checks_fail form request s body =
    ap (λ (w : Way (Sofar (List ℕ) Failure)). (reached w).failures)
    (judged_fit form request s (checked form request) (checked_leaves form request s) (λ r. Unit {0}) (checked_agrees form request s) (records body) (any (records body).list) always always_closed refl)
    ∙ ap (λ (x : Sofar (List ℕ) Failure). x.failures) (reached_over (records body).ending _)

-- ---- a pass that writes, over a store

-- what the check says goes by the contents alone
status_any : (s t : List ℕ) (x : Result Attribute Status) (v : List ℕ) → (write_by t x v).status ≡ (write_by s x v).status
status_any s t (Ok a) v = refl
status_any s t (Err why) v = refl

module _ (form : ℕ) (request : ZclHeader) (s : List ℕ) (wide : 8 ≤ form) (is : is_store form s ≡ true) where
  pub status_alike : (t : List ℕ) (r : WriteRecord) → StoreLike form s t → Whole r → (written form request t r).status ≡ status_over form request s r
  unfolding written write_of find_of
  status_alike t r a w =
      let name : ℕ = name_of request.manufacturer_code.0 r.id in
      ap (λ (l : List Attribute). (write_by t (check_of (find_in l name) r.type r.value) r.value).status) a.same_contents
      ∙ status_any s t (check_of (find_of form s name) r.type r.value) r.value

  pub alike : (t : List ℕ) (r : WriteRecord) → StoreLike form s t → Whole r → StoreLike form s (written form request t r).store
  alike t r a w = record_alike form s request wide t r a w

  pub itself : StoreLike form s s
  itself = record { still = is; same_length = refl; same_contents = refl }

  module _ (body : List ℕ) where
    pub written_fit : (fine : List Failure → Bool) → Closed fine → fine (failing form request s (records body).list) ≡ true
        → pass (writing form request) fine (records body) s ≡ over (records body).ending (sofar (folded (writing form request) s (records body).list) (failing form request s (records body).list))
    unfolding pass_from
    written_fit fine closed f =
        all-fit (writing form request) (StoreLike form s) Whole (status_over form request s) status_alike alike fine closed (records body).ending (records body).list s [] itself (records_whole body 0) f

    pub all_written : written_all form request body s ≡ folded (writing form request) s (records body).list
    unfolding written_all
    all_written =
        ap (λ (w : Way (Sofar (List ℕ) Failure)). (reached w).state) (written_fit always always_closed refl)
        ∙ ap (λ (x : Sofar (List ℕ) Failure). x.state) (reached_over (records body).ending _)

    writes_fail_in : failures_of (writing form request) body s ≡ failing form request s (records body).list
    writes_fail_in =
        ap (λ (w : Way (Sofar (List ℕ) Failure)). (reached w).failures) (written_fit always always_closed refl)
        ∙ ap (λ (x : Sofar (List ℕ) Failure). x.failures) (reached_over (records body).ending _)

pub writes_fail : WritesFail
writes_fail form request s body wide is = writes_fail_in form request s wide is body

pub none_arises : NoneArises
none_arises form request s body wide is none = writes_fail form request s body wide is ∙ sym (checks_fail form request s body) ∙ none
