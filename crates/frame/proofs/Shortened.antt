-- The laws of a reply that lists records as long as they fit (`specs/Shortened.antt`), for any records. Assumes nothing.
use Rattle.std.specs.Prelude.{Err, None, Ok, Option, Result, Some}
use mathlib.Core.Path.{◌≡◌, refl, sym, ap, ◌∙◌, subst}
use mathlib.Core.Bool.{Bool, true, false, cond}
use mathlib.Core.List.{List, [], ◌∷◌, ◌++◌, append-nil, map, map-append}
use Prim.Native.Nat.{ℕ, ◌+◌, ◌≤◌, ◌<◌}
use native.Mathlib.Omega.{arith}
use lib.ListN.{length, length-append, length-replicate}
use lib.Seq.{append_snoc}
use lib.Dec.{leb}
use borrow.Author.Tests.{le-leb, lt-leb, leb-true}
use Rattle.types.specs.Number.{zeros}
use Rattle.frame.specs.Inside.Buffer.{putting, put, Shows, Longer, Stays, Ways}
use Rattle.frame.specs.Answer.{Outcome, no_state, seen, refused}
use Rattle.frame.specs.Walk.{Item, item, unread, Ending, done, cut, Records, records_from, Way, through, broken, stopped, walk}
use Rattle.frame.specs.Encoded.{encode_all, fits}
use Rattle.frame.specs.Shortened.{Making, with_record_for, shortened_from, shortened_reply, shortened}
use Rattle.frame.specs.Inside.Shortened.{Turned, Walked}
use Rattle.frame.specs.declared.answer.Refusal.{Refusal}
use Rattle.frame.specs.declared.answer.Refusal.TheVariants.{RecordCut, ReplyTooLong}
use Rattle.frame.proofs.Buffer.{PutAt, shows_cleared, shows_put, shows_full}
use Rattle.frame.proofs.Outcome.{seen_reply, seen_refused}
use Rattle.frame.proofs.Walks.{Ahead, walk_done, walk_cut, walk_more, walk_stop}
use Rattle.frame.proofs.Encoded.{fits_within, put_record}

-- ---- one record of the request

module _ {Q R : Type 0} (encode : R → List ℕ) (making : Making Q R) (q : Q) (d : List ℕ) (out : ℕ) where
  -- the turn, by the record that is made
  turned_as : (head : List ℕ) (rs : List R) (r : R) (p : Option ℕ) (after : List ℕ) → making (λ x. fits encode (length d) (length head) (rs ++ (x ∷ []))) q ≡ r
      → Ways encode head (rs ++ (r ∷ [])) (length d) d p after → Ways encode head (with_record_for encode making (length d) (length head) rs q) (length d) d p after
  unfolding with_record_for
  turned_as head rs r p after e w = subst (λ (x : R). Ways encode head (rs ++ (x ∷ [])) (length d) d p after) (sym e) w

  -- the record does not depend on the room
  pub turned_put : (r : R) → ((fit : R → Bool) → making fit q ≡ r) → (p : Option ℕ) (after : List ℕ) → putting p after ≡ put d out (encode r) → Turned encode making q d out p after
  turned_put r is p after g head rs w =
      turned_as head rs r p after (is (λ x. fits encode (length d) (length head) (rs ++ (x ∷ [])))) (put_record encode head rs r d out p after w g)

  -- or one is tried, and another is made where it does not fit
  module _ (v r : R) (is : (fit : R → Bool) → making fit q ≡ cond (fit v) v r) (p : Option ℕ) (after : List ℕ) (g : putting p after ≡ put d out (encode v)) where
    made : (head : List ℕ) (rs : List R) (b : Bool) → fits encode (length d) (length head) (rs ++ (v ∷ [])) ≡ b → making (λ x. fits encode (length d) (length head) (rs ++ (x ∷ []))) q ≡ cond b v r
    made head rs b e = is (λ x. fits encode (length d) (length head) (rs ++ (x ∷ []))) ∙ ap (λ (c : Bool). cond c v r) e

    tried : (k : Option ℕ) → p ≡ k → putting k after ≡ put d out (encode v)
    tried k e = ap (λ (x : Option ℕ). putting x after) (sym e) ∙ g

    -- it fits
    pub turned_tried : (o : ℕ) → p ≡ Some o → Turned encode making q d out (Some o) after
    turned_tried o e head rs w =
        let x : Longer encode head (rs ++ (v ∷ [])) (length d) o after = put_record encode head rs v d out (Some o) after w (tried (Some o) e) in
        turned_as head rs v (Some o) after (made head rs true x.fit) x

    -- it does not
    pub turned_else : p ≡ None → (p₂ : Option ℕ) (after₂ : List ℕ) → putting p₂ after₂ ≡ put after out (encode r) → Turned encode making q d out p₂ after₂
    turned_else e p₂ after₂ g₂ head rs w =
        let x : Stays encode head (rs ++ (v ∷ [])) (length d) d after = put_record encode head rs v d out None after w (tried None e) in
        turned_as head rs r p₂ after₂ (made head rs false x.unfit)
        (put_record encode head rs r d out p₂ after₂ w (g₂ ∙ ap (λ (l : List ℕ). put l out (encode r)) x.same))

-- ---- the loop: the walk from where it stands is the walk from the start

-- where the loop stands: the records that the buffer shows behind the head, and that the rest of the walk is theirs
pub record Going {Q R : Type 0} (encode : R → List ℕ) (making : Making Q R) (next : ℕ → Item Q) (len room : ℕ) (head reply : List ℕ) (at out : ℕ) : Type 0 where
  pub records : List R
  pub shows : Shows reply out (head ++ encode_all encode records)
  pub same : shortened_from encode making room (length head) records (records_from next len at) ≡ shortened_from encode making room (length head) [] (records_from next len 0)

module _ {Q R : Type 0} (encode : R → List ℕ) (making : Making Q R) (next : ℕ → Item Q) (len room : ℕ) (head reply : List ℕ) where
  pub going_first : (out : ℕ) → Shows reply out head → Going encode making next len room head reply 0 out
  unfolding encode_all
  going_first out w = record { records = []; shows = subst (Shows reply out) (sym (append-nil head)) w; same = refl }

  module _ (at out : ℕ) (g : Going encode making next len room head reply at out) (same : length reply ≡ room) where
    abbrev whole : Outcome (Unit {0})
    whole = shortened_reply encode room head (shortened_from encode making room (length head) [] (records_from next len 0))

    -- the outcome, from where the walk goes
    ends_as : (y : Way (List R)) → shortened_from encode making room (length head) g.records (records_from next len at) ≡ y → shortened_reply encode room head y ≡ whole
    ends_as y e = ap (shortened_reply encode room head) (sym e ∙ g.same)

    -- no record is left
    pub going_done : len ≤ at → seen (Ok out) reply no_state ≡ whole
    unfolding shortened_from shortened_reply
    going_done h =
        seen_reply room reply out (head ++ encode_all encode g.records) no_state g.shows same
        ∙ ends_as (through g.records) (walk_done next len (with_record_for encode making room (length head)) (fits encode room (length head)) g.records at h)

    -- a record cannot be read
    pub going_cut : at < len → unread ≡ next at → refused (length reply) RecordCut no_state ≡ whole
    unfolding shortened_from shortened_reply
    going_cut h e =
        ap (λ (k : ℕ). refused k RecordCut no_state) same
        ∙ ends_as (broken g.records) (walk_cut next len (with_record_for encode making room (length head)) (fits encode room (length head)) g.records at h (sym e))

    module _ (ahead : Ahead next) (h : at < len) (q : Q) (to : ℕ) (e : item q to ≡ next at) (r : Option ℕ) (after : List ℕ) (turned : Turned encode making q reply out r after) where
      abbrev longer : List R
      longer = with_record_for encode making room (length head) g.records q

      way : (p : Option ℕ) → r ≡ p → Ways encode head longer room reply p after
      way p k =
          subst (λ (x : Option ℕ). Ways encode head longer room reply x after) k
          (subst (λ (n : ℕ). Ways encode head (with_record_for encode making n (length head) g.records q) n reply r after) same (turned head g.records g.shows))

      -- the next one's record fits
      pub going_more : (o : ℕ) → r ≡ Some o → Going encode making next len room head after to o
      unfolding shortened_from
      going_more o k =
          let w : Longer encode head longer room o after = way (Some o) k in
          record {
            records = longer;
            shows = w.shows;
            same = sym (walk_more next len (with_record_for encode making room (length head)) (fits encode room (length head)) g.records at ahead q to h (sym e) w.fit) ∙ g.same;
          }

      -- it does not: the reply is without it
      pub going_stop : r ≡ None → seen (Ok out) after no_state ≡ whole
      unfolding shortened_from shortened_reply
      going_stop k =
          let w : Stays encode head longer room reply after = way None k in
          ap (λ (l : List ℕ). seen (Ok out) l no_state) w.same
          ∙ seen_reply room reply out (head ++ encode_all encode g.records) no_state g.shows same
          ∙ ends_as (stopped g.records longer) (walk_stop next len (with_record_for encode making room (length head)) (fits encode room (length head)) g.records at ahead q to h (sym e) w.unfit)

-- ---- the header first, then the loop

module _ {Q R : Type 0} (encode : R → List ℕ) (making : Making Q R) (head : List ℕ) (room : ℕ) where
  headless : (requests : Records Q) → room < length head → refused room ReplyTooLong no_state ≡ shortened encode making head requests room
  unfolding shortened
  headless requests h = rw (lt-leb (length head) room h)

  walks : (requests : Records Q) → length head ≤ room → shortened_reply encode room head (shortened_from encode making room (length head) [] requests) ≡ shortened encode making head requests room
  unfolding shortened
  walks requests h = rw (le-leb (length head) room h)

  -- a cleared buffer, and the header put there
  module _ (d₀ : List ℕ) (z : d₀ ≡ zeros room) (r : Option ℕ) (d₁ : List ℕ) (p : putting r d₁ ≡ put d₀ 0 head) where
    cleared : length d₀ ≡ room
    cleared = ap length z ∙ length-replicate room 0

    -- it does not fit
    pub shortened_headless : (requests : Records Q) → r ≡ None → seen (Err ReplyTooLong) d₁ no_state ≡ shortened encode making head requests room
    shortened_headless requests q =
        let w = shows_full d₀ 0 [] head r d₁ (shows_cleared room d₀ z) p q in
        let l : length d₀ ≡ room = cleared in
        seen_refused room d₁ ReplyTooLong no_state (w.1 ∙ z) ∙ headless requests (omega (arith, w.0))

    -- it fits, and the walk goes on behind it
    pub shortened_walked : (next : ℕ → Item Q) (len from : ℕ) → r ≡ Some from → (a : Result ℕ Refusal) (after : List ℕ) → Walked encode making next len d₁ from a after
        → seen a after no_state ≡ shortened encode making head (records_from next len 0) room
    shortened_walked next len from q a after walked =
        let w : PutAt d₀ [] head from d₁ = shows_put d₀ 0 [] head r from d₁ (shows_cleared room d₀ z) p q in
        let l : length d₀ ≡ room = cleared in
        walked head w.shows
        ∙ ap (λ (k : ℕ). shortened_reply encode k head (shortened_from encode making k (length head) [] (records_from next len 0))) (w.same ∙ l)
        ∙ walks (records_from next len 0) (omega (arith, w.fits))

-- ---- the room: the reply is never longer

-- the records that a walk did before it ended
abbrev pub did : {R : Type 0} → Way (List R) → List R
did (through rs) = rs
did (broken rs) = rs
did (stopped rs more) = rs

module _ {Q R : Type 0} (encode : R → List ℕ) (making : Making Q R) (room head : ℕ) where
  -- a walk stops before its records are longer than the room
  did_within : (e : Ending) (qs : List Q) (rs : List R) → head + length (encode_all encode rs) ≤ room
      → head + length (encode_all encode (did (walk (with_record_for encode making room head) (fits encode room head) rs e qs))) ≤ room
  unfolding walk
  did_within done [] rs h = h
  did_within cut [] rs h = h
  did_within e (q ∷ qs) rs h = go (fits encode room head longer) refl (λ k. did_within e qs longer k)
    where
      longer : List R
      longer = with_record_for encode making room head rs q

      more : Way (List R)
      more = walk (with_record_for encode making room head) (fits encode room head) longer e qs

      go : (b : Bool) → fits encode room head longer ≡ b → (head + length (encode_all encode longer) ≤ room → head + length (encode_all encode (did more)) ≤ room)
          → head + length (encode_all encode (did (cond b more (stopped rs longer)))) ≤ room
      go true f rec = rec (fits_within encode room head longer f)
      go false f rec = h

reply_within : {R : Type 0} (encode : R → List ℕ) (room : ℕ) (head : List ℕ) (y : Way (List R)) → length head + length (encode_all encode (did y)) ≤ room
    → (shortened_reply encode room head y).size ≤ room
unfolding shortened_reply
reply_within encode room head (through rs) h = rw (length-append head (encode_all encode rs)) h
reply_within encode room head (broken rs) h = omega arith
reply_within encode room head (stopped rs more) h = rw (length-append head (encode_all encode rs)) h

module _ {Q R : Type 0} (encode : R → List ℕ) (making : Making Q R) (head : List ℕ) (requests : Records Q) (room : ℕ) where
  by_head : (b : Bool) → leb (length head) room ≡ b
      → (cond b (shortened_reply encode room head (shortened_from encode making room (length head) [] requests)) (refused room ReplyTooLong no_state)).size ≤ room
  unfolding shortened_from encode_all
  by_head true e =
      reply_within encode room head (shortened_from encode making room (length head) [] requests)
      (did_within encode making room (length head) requests.ending requests.list [] (omega (arith, leb-true (length head) room e)))
  by_head false e = omega arith

  pub shortened_within : (shortened encode making head requests room).size ≤ room
  unfolding shortened
  shortened_within = by_head (leb (length head) room) refl

-- ---- which records: those for the first records of the request, in its order

-- these, and some that are left
pub record Prefix {A : Type 0} (some all : List A) : Type 0 where
  pub rest : List A
  pub is : some ++ rest ≡ all

-- where the record made for one tells which one it is for
module _ {Q R : Type 0} (encode : R → List ℕ) (making : Making Q R) (of : R → Q) (made_of : (fit : R → Bool) (q : Q) → of (making fit q) ≡ q) (room head : ℕ) where
  turn-of : (rs : List R) (q : Q) (qs : List Q) → map of (with_record_for encode making room head rs q) ++ qs ≡ map of rs ++ q ∷ qs
  unfolding with_record_for
  turn-of rs q qs =
      let fit : R → Bool = λ r. fits encode room head (rs ++ (r ∷ [])) in
      ap (λ (l : List Q). l ++ qs) (map-append of rs (making fit q ∷ []))
      ∙ append_snoc (map of rs) (of (making fit q)) qs
      ∙ ap (λ (k : Q). map of rs ++ k ∷ qs) (made_of fit q)

  did_prefix : (e : Ending) (qs : List Q) (rs : List R) → Prefix (map of (did (walk (with_record_for encode making room head) (fits encode room head) rs e qs))) (map of rs ++ qs)
  unfolding walk
  did_prefix done [] rs = record { rest = []; is = refl }
  did_prefix cut [] rs = record { rest = []; is = refl }
  did_prefix e (q ∷ qs) rs = go (fits encode room head longer) (did_prefix e qs longer)
    where
      longer : List R
      longer = with_record_for encode making room head rs q

      more : Way (List R)
      more = walk (with_record_for encode making room head) (fits encode room head) longer e qs

      go : (b : Bool) → Prefix (map of (did more)) (map of longer ++ qs) → Prefix (map of (did (cond b more (stopped rs longer)))) (map of rs ++ q ∷ qs)
      go true w = record { rest = w.rest; is = w.is ∙ turn-of rs q qs }
      go false w = record { rest = q ∷ qs; is = refl }

  pub shortened_prefix : (requests : Records Q) → Prefix (map of (did (shortened_from encode making room head [] requests))) requests.list
  unfolding shortened_from
  shortened_prefix requests = did_prefix requests.ending requests.list []
