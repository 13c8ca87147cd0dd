-- The three commands as document 01 has them, and what stayed of them (specs/Claims/Before.antt). Assumes nothing.
use Rattle.std.specs.Prelude.{Err, None, Ok, Option, Some}
use mathlib.Core.Path.{◌≡◌, refl, sym, ap, ◌∙◌, fun_ext}
use mathlib.Core.Bool.{Bool, true, false, cond}
use mathlib.Core.List.{List, [], ◌∷◌}
use Prim.Native.Nat.{ℕ, ◌+◌, ◌≤◌}
use native.Mathlib.Omega.{arith}
use lib.ListN.{length}
use lib.Dec.{leb, eqb}
use borrow.Author.Tests.{le-leb, leb-true}
use Rattle.frame.specs.declared.header.ZclHeader.{ZclHeader}
use Rattle.frame.specs.declared.command_identifier.CommandIdentifier.TheVariants.{WriteAttributesResponse}
use Rattle.frame.specs.declared.status.Status.TheVariants.{InvalidValue}
use Rattle.frame.specs.declared.answer.Refusal.TheVariants.{NothingToSend, ReplyTooLong}
use Rattle.frame.specs.Header.{reply_head}
use Rattle.frame.specs.Answer.{Outcome, refused}
use Rattle.frame.specs.Walk.{Ending, done, cut, Records, Way, through, reached, All}
use Rattle.frame.specs.Encoded.{encode_all, fits}
use Rattle.frame.specs.Failures.{Doing, Sofar, sofar, pass, always, concluded, performed, headed}
use Rattle.frame.proofs.Walks.{any}
use Rattle.frame.proofs.States.{folded}
use Rattle.frame.proofs.Failing.{Closed, fits_closed, over, Halts}
use Rattle.store.specs.declared.lookup.Attribute.{Attribute}
use Rattle.store.specs.Contents.{name_of, find_of}
use Rattle.store.specs.Layout.{is_store}
use Rattle.store.specs.Write.{too_long, is_writable, check_of, write_by, write_of}
use Rattle.frame.specs.declared.status.Status.TheVariants.{ReadOnly, InvalidDataType}
use Rattle.write.specs.Request.{WriteRecord, records}
use Rattle.write.specs.Reply.{Failure, encode}
use Rattle.write.specs.Write.{written, listing, checked, writing, checking, written_all, settled, write_attributes, write_undivided, write_silently}
use Rattle.write.specs.Claims.Undivided.{status_over, failing}
use Rattle.write.specs.Claims.Before.{writable_before, stored_before, passed_before, written_before, checked_before, writing_before, steps_before, undivided_before, WriteAsBefore, SilentlyAsBefore, UndividedAsBefore}
use Rattle.write.proofs.Judged.{judged_fit, judged_halts, halted_left, checked_leaves, checked_agrees, written_fit, all_written}

-- ---- a record

module _ (s : List ℕ) (t : ℕ) (v : List ℕ) where
  -- the four checks at once, or three and then the fourth
  as_stored : (f : Option Attribute) → write_by s (check_of f t v) v ≡ stored_before s v (writable_before f t)
  unfolding check_of
  as_stored None = refl
  as_stored (Some a) = go (is_writable a) (eqb a.type_id.0 t) (too_long a v) refl
    where
      go : (x y z : Bool) → too_long a v ≡ z
          → write_by s (cond x (cond y (cond z (Err InvalidValue) (Ok a)) (Err InvalidDataType)) (Err ReadOnly)) v
          ≡ stored_before s v (cond x (cond y (Ok a) (Err InvalidDataType)) (Err ReadOnly))
      go false y z e = refl
      go true false z e = refl
      go true true true e = rw e
      go true true false e = rw e

  -- three checks say what four say, of a value that is not too long
  as_passed : (f : Option Attribute) → ((write_by s (check_of f t v) v).status ≡ InvalidValue → ⊥) → passed_before (writable_before f t) ≡ (write_by s (check_of f t v) v).status
  unfolding check_of
  as_passed None n = refl
  as_passed (Some a) n = go (is_writable a) (eqb a.type_id.0 t) (too_long a v) n
    where
      go : (x y z : Bool) → ((write_by s (cond x (cond y (cond z (Err InvalidValue) (Ok a)) (Err InvalidDataType)) (Err ReadOnly)) v).status ≡ InvalidValue → ⊥)
          → passed_before (cond x (cond y (Ok a) (Err InvalidDataType)) (Err ReadOnly))
          ≡ (write_by s (cond x (cond y (cond z (Err InvalidValue) (Ok a)) (Err InvalidDataType)) (Err ReadOnly)) v).status
      go false y z n = refl
      go true false z n = refl
      go true true true n = absurd (n refl)
      go true true false n = refl

module _ (form : ℕ) (request : ZclHeader) where
  as_written : (s : List ℕ) (r : WriteRecord) → written form request s r ≡ written_before form request s r
  unfolding written write_of written_before
  as_written s r = as_stored s r.type r.value (find_of form s (name_of request.manufacturer_code.0 r.id))

  same_doing : writing form request ≡ writing_before form request
  same_doing = ap listing (fun_ext (λ s. fun_ext (λ r. as_written s r)))

  before_leaves : (t : List ℕ) (r : WriteRecord) → (checked_before form request t r).store ≡ t
  unfolding checked_before
  before_leaves t r = refl

  before_agrees : (s : List ℕ) (r : WriteRecord) → (status_over form request s r ≡ InvalidValue → ⊥) → (checked_before form request s r).status ≡ status_over form request s r
  unfolding checked_before written write_of
  before_agrees s r n = as_passed s r.type r.value (find_of form s (name_of request.manufacturer_code.0 r.id)) n

-- ---- 02 and 05

pub write_as_before : WriteAsBefore
unfolding write_attributes
write_as_before form s request body room =
    ap (λ (d : Doing (List ℕ) WriteRecord Failure). headed request WriteAttributesResponse s room (performed d (records body) s room)) (same_doing form request)

pub silently_as_before : SilentlyAsBefore
unfolding write_silently written_all
silently_as_before form s request body room =
    ap (λ (d : Doing (List ℕ) WriteRecord Failure). refused room NothingToSend (reached (pass d always (records body) s)).state) (same_doing form request)

-- ---- 03

module _ (form : ℕ) (s : List ℕ) (request : ZclHeader) (body : List ℕ) (room : ℕ) (wide : 8 ≤ form) (is : is_store form s ≡ true)
    (none : All (λ r. status_over form request s r ≡ InvalidValue → ⊥) (records body).list) (head : List ℕ) (fit : fits encode room (length head) [] ≡ true) where
  abbrev rs : Records WriteRecord
  rs = records body

  abbrev fine : List Failure → Bool
  fine = fits encode room (length head)

  abbrev closed : Closed fine
  closed = fits_closed encode room (length head)

  abbrev Any : WriteRecord → Type 0
  Any r = Unit {0}

  abbrev Short : WriteRecord → Type 0
  Short r = status_over form request s r ≡ InvalidValue → ⊥

  abbrev fs : List Failure
  fs = failing form request s rs.list

  abbrev all : List ℕ → List ℕ
  all = written_all form request body

  abbrev new : Way (Sofar (List ℕ) Failure)
  new = pass (checking form request) fine rs s

  abbrev old : Way (Sofar (List ℕ) Failure)
  old = pass (listing (checked_before form request)) fine rs s

  -- the write steps with nothing to list
  second : fine fs ≡ true → fs ≡ [] → rs.ending ≡ done → performed (writing_before form request) rs s room head ≡ concluded encode room head (through (sofar (all s) []))
  unfolding performed
  second f z e =
      ap (λ (d : Doing (List ℕ) WriteRecord Failure). concluded encode room head (pass d fine rs s)) (sym (same_doing form request))
      ∙ ap (concluded encode room head)
      (written_fit form request s wide is body fine closed f
      ∙ ap (λ (k : Ending). over k (sofar (folded (writing form request) s rs.list) fs)) e
      ∙ (λ i. through (sofar (sym (all_written form request s wide is body) i) (z i))))

  by_list : (l : List Failure) → fs ≡ l → (e : Ending) → rs.ending ≡ e → fine fs ≡ true
      → concluded encode room head (settled all (over e (sofar s l))) ≡ steps_before form request body room head (over e (sofar s l))
  unfolding steps_before
  by_list [] z done k f = sym (second f z k)
  by_list (x ∷ l) z done k f = refl
  by_list [] z cut k f = refl
  by_list (x ∷ l) z cut k f = refl

  new_halts : Halts new → concluded encode room head (settled all new) ≡ refused room ReplyTooLong s
  unfolding concluded
  new_halts x =
      ap (λ (w : Way (Sofar (List ℕ) Failure)). concluded encode room head (settled all w)) x.is
      ∙ ap (refused room ReplyTooLong) (halted_left form request s (checked form request) (checked_leaves form request s) Any (checked_agrees form request s) rs (any rs.list) fine x)

  old_halts : Halts old → steps_before form request body room head old ≡ refused room ReplyTooLong s
  unfolding steps_before concluded
  old_halts y =
      ap (steps_before form request body room head) y.is
      ∙ ap (refused room ReplyTooLong) (halted_left form request s (checked_before form request) (before_leaves form request) Short (before_agrees form request s) rs none fine y)

  by_fit : (b : Bool) → fine fs ≡ b → concluded encode room head (settled all new) ≡ steps_before form request body room head old
  by_fit true f =
      ap (λ (w : Way (Sofar (List ℕ) Failure)). concluded encode room head (settled all w))
      (judged_fit form request s (checked form request) (checked_leaves form request s) Any (checked_agrees form request s) rs (any rs.list) fine closed f)
      ∙ by_list fs refl rs.ending refl f
      ∙ ap (steps_before form request body room head)
      (sym (judged_fit form request s (checked_before form request) (before_leaves form request) Short (before_agrees form request s) rs none fine closed f))
  by_fit false f =
      new_halts (judged_halts form request s (checked form request) (checked_leaves form request s) Any (checked_agrees form request s) rs (any rs.list) fine closed fit f)
      ∙ sym (old_halts (judged_halts form request s (checked_before form request) (before_leaves form request) Short (before_agrees form request s) rs none fine closed fit f))

  behind_head : concluded encode room head (settled all new) ≡ steps_before form request body room head old
  behind_head = by_fit (fine fs) refl

pub undivided_as_before : UndividedAsBefore
unfolding write_undivided undivided_before headed fits encode_all
undivided_as_before form s request body room wide is none = go (leb (length (reply_head request WriteAttributesResponse)) room) refl
  where
    head : List ℕ
    head = reply_head request WriteAttributesResponse

    new : Outcome (List ℕ)
    new = concluded encode room head (settled (written_all form request body) (pass (checking form request) (fits encode room (length head)) (records body) s))

    old : Outcome (List ℕ)
    old = steps_before form request body room head (pass (listing (checked_before form request)) (fits encode room (length head)) (records body) s)

    go : (b : Bool) → leb (length head) room ≡ b → cond b new (refused room ReplyTooLong s) ≡ cond b old (refused room ReplyTooLong s)
    go false e = refl
    go true e = behind_head form s request body room wide is none head (le-leb (length head + 0) room (omega (arith, leb-true (length head) room e)))
