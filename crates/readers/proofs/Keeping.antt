-- What holds of every record that is made holds of all that a reply keeps: a shortened list, and a list of failures. Assumes nothing.
use mathlib.Core.Path.{◌≡◌, refl}
use mathlib.Core.Bool.{Bool, true, false, cond}
use mathlib.Core.List.{List, [], ◌∷◌, ◌++◌}
use Prim.Native.Nat.{ℕ}
use lib.Dec.{eqb}
use borrow.Author.Tests.{eqb-false}
use Rattle.frame.specs.declared.status.Status.{Status}
use Rattle.frame.specs.Status.{status_code}
use Rattle.frame.specs.Walk.{Item, item, Ending, done, cut, Records, records_from, Way, stopped, walk, reached, All}
use Rattle.frame.specs.Encoded.{fits}
use Rattle.frame.specs.Shortened.{Making, with_record_for, shortened_from}
use Rattle.frame.specs.Failures.{Doing, sofar, done_with, also, pass_from, pass}
use Rattle.frame.proofs.Walks.{all_snoc, records_all, walk_keeps}
use Rattle.readers.specs.Claims.Sendable.{Failed}
use Rattle.readers.specs.Claims.Served.{kept}

-- what is read of a body has what each record that can be read has
pub every_read : {R : Type 0} (next : ℕ → Item R) (len : ℕ) (Q : R → Type 0)
    → ((p : ℕ) (r : R) (q : ℕ) → next p ≡ item r q → Q r) → All Q (records_from next len 0).list
unfolding records_from
every_read next len Q k = records_all next len Q k _ 0

-- ---- a shortened list, where each record made for a good one of the request is good

module _ {Q R : Type 0} (encode : R → List ℕ) (making : Making Q R) (room head : ℕ) (Good : R → Type 0) (Fine : Q → Type 0)
    (makes : (fit : R → Bool) (q : Q) → Fine q → Good (making fit q)) where
  keeps_from : (e : Ending) (qs : List Q) (rs : List R) → All Good rs → All Fine qs
      → All Good (kept (walk (with_record_for encode making room head) (fits encode room head) rs e qs))
  unfolding walk with_record_for
  keeps_from done [] rs h k = h
  keeps_from cut [] rs h k = h
  keeps_from e (q ∷ qs) rs h k = go (fits encode room head longer) (keeps_from e qs longer (all_snoc Good rs _ h (makes _ q k.0)) k.1)
    where
      longer : List R
      longer = rs ++ (making (λ r. fits encode room head (rs ++ (r ∷ []))) q ∷ [])

      more : Way (List R)
      more = walk (with_record_for encode making room head) (fits encode room head) longer e qs

      go : (b : Bool) → All Good (kept more) → All Good (kept (cond b more (stopped rs longer)))
      go true w = w
      go false w = h

  pub keeps_shortened : (requests : Records Q) → All Fine requests.list → All Good (kept (shortened_from encode making room head [] requests))
  unfolding shortened_from
  keeps_shortened requests k = keeps_from requests.ending requests.list [] tt k

-- ---- a list of failures, where a failure listed for a good record is good

module _ {S R F : Type 0} (doing : Doing S R F) (Good : F → Type 0) (Fine : R → Type 0)
    (lists : (why : Status) (r : R) → Fine r → Failed (status_code why) → Good (doing.fails why r)) where
  keeps_also : (fs : List F) (r : R) (why : Status) → All Good fs → Fine r → All Good (also fs why (doing.fails why r))
  keeps_also fs r why h k = go (eqb (status_code why) 0) refl
    where
      go : (b : Bool) → eqb (status_code why) 0 ≡ b → All Good (cond b fs (fs ++ (doing.fails why r ∷ [])))
      go true e = h
      go false e = all_snoc Good fs _ h (lists why r k (eqb-false _ _ e))

  pub keeps_failures : (fine : List F → Bool) (rs : Records R) (s : S) → All Fine rs.list → All Good (reached (pass doing fine rs s)).failures
  unfolding pass_from done_with
  keeps_failures fine rs s k =
      walk_keeps (done_with doing) (λ y. fine y.failures) (λ x. All Good x.failures) Fine
      (λ x r h w. keeps_also x.failures r (doing.does x.state r).status h w)
      rs.ending rs.list (sofar s []) tt k
