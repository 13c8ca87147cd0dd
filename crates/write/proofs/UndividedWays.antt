-- The ways of an undivided write, by its room, by how its records end and by their failures: one case split for all that is claimed of it. Assumes nothing.
use mathlib.Core.Path.{◌≡◌, refl, sym, ap, ◌∙◌}
use mathlib.Core.Bool.{Bool, true, false}
use mathlib.Core.List.{List, [], ◌∷◌, ◌++◌}
use Prim.Native.Nat.{ℕ, ◌+◌, ◌≤◌, ◌<◌}
use native.Mathlib.Omega.{arith}
use lib.ListN.{length, length-append}
use lib.Dec.{leb}
use borrow.Author.Tests.{le-leb, lt-leb, leb-true, leb-false}
use Rattle.frame.specs.declared.header.ZclHeader.{ZclHeader}
use Rattle.frame.specs.declared.command_identifier.CommandIdentifier.TheVariants.{WriteAttributesResponse}
use Rattle.frame.specs.declared.answer.Refusal.TheVariants.{RecordCut, ReplyTooLong}
use Rattle.frame.specs.Header.{reply_head}
use Rattle.frame.specs.Answer.{Outcome, replied, refused}
use Rattle.frame.specs.Walk.{Ending, done, cut, Way}
use Rattle.frame.specs.Encoded.{encode_all, fits}
use Rattle.frame.specs.Failures.{Sofar, sofar, pass, encode_failures, answered, concluded, headed}
use Rattle.frame.proofs.Headers.{reply_head_length}
use Rattle.frame.proofs.Encoded.{fits_within}
use Rattle.frame.proofs.Walks.{any}
use Rattle.frame.proofs.Failing.{fits_closed, over, Halts}
use Rattle.write.specs.Request.{WriteRecord, records}
use Rattle.write.specs.Reply.{Failure, encode}
use Rattle.write.specs.Write.{checked, checking, written_all, settled, write_undivided}
use Rattle.write.specs.Claims.Undivided.{failing}
use Rattle.write.proofs.Judged.{judged_fit, judged_halts, halted_left, checked_leaves, checked_agrees}

-- an outcome over a store s, behind a head: the failures fs of records that end so, all of them written
pub data Decided (room : ℕ) (head s all : List ℕ) (e : Ending) (fs : List Failure) (o : Outcome (List ℕ)) : Type 0 where
  -- no room for the header; failures that do not fit; a record that cannot be read
  tight : room < 3 → o ≡ refused room ReplyTooLong s → Decided room head s all e fs o
  full : 3 ≤ room → fits encode room 3 fs ≡ false → o ≡ refused room ReplyTooLong s → Decided room head s all e fs o
  broke : 3 ≤ room → fits encode room 3 fs ≡ true → e ≡ cut → o ≡ refused room RecordCut s → Decided room head s all e fs o
  -- failures, listed
  listed : 3 ≤ room → fits encode room 3 fs ≡ true → e ≡ done → (f : Failure) (l : List Failure) → fs ≡ f ∷ l → o ≡ replied room (head ++ encode_all encode (f ∷ l)) s
      → Decided room head s all e fs o
  -- none: all is written, and its 00 fits or not
  wrote : 4 ≤ room → e ≡ done → fs ≡ [] → o ≡ replied room (head ++ (0 ∷ [])) all → Decided room head s all e fs o
  narrow : room ≡ 3 → e ≡ done → fs ≡ [] → o ≡ refused room ReplyTooLong all → Decided room head s all e fs o

module _ (form : ℕ) (s : List ℕ) (request : ZclHeader) (body : List ℕ) (room : ℕ) where
  abbrev head : List ℕ
  head = reply_head request WriteAttributesResponse

  abbrev three : length head ≡ 3
  three = reply_head_length request WriteAttributesResponse

  abbrev fs : List Failure
  fs = failing form request s (records body).list

  abbrev all : List ℕ → List ℕ
  all = written_all form request body

  abbrev first : Way (Sofar (List ℕ) Failure)
  first = pass (checking form request) (fits encode room 3) (records body) s

  abbrev Way_of : Outcome (List ℕ) → Type 0
  Way_of o = Decided room head s (all s) (records body).ending fs o

  abbrev Any : WriteRecord → Type 0
  Any r = Unit {0}

  -- with room for the header
  roomy : 3 ≤ room → write_undivided form s request body room ≡ concluded encode room head (settled all first)
  unfolding write_undivided headed
  roomy h =
      rw (le-leb (length head) room (omega (arith, three)))
      (ap (λ (n : ℕ). concluded encode room head (settled all (pass (checking form request) (fits encode room n) (records body) s))) three)

  -- and without
  small : room < 3 → write_undivided form s request body room ≡ refused room ReplyTooLong s
  unfolding write_undivided headed
  small h = rw (lt-leb (length head) room (omega (arith, three)))

  halted : Halts first → 3 ≤ room → write_undivided form s request body room ≡ refused room ReplyTooLong s
  unfolding concluded
  halted x h =
      roomy h
      ∙ ap (λ (w : Way (Sofar (List ℕ) Failure)). concluded encode room head (settled all w)) x.is
      ∙ ap (refused room ReplyTooLong)
      (halted_left form request s (checked form request) (checked_leaves form request s) Any (checked_agrees form request s) (records body) (any (records body).list) (fits encode room 3) x)

  taken : 3 ≤ room → fits encode room 3 fs ≡ true → write_undivided form s request body room ≡ concluded encode room head (settled all (over (records body).ending (sofar s fs)))
  taken h f =
      roomy h
      ∙ ap (λ (w : Way (Sofar (List ℕ) Failure)). concluded encode room head (settled all w))
      (judged_fit form request s (checked form request) (checked_leaves form request s) Any (checked_agrees form request s) (records body) (any (records body).list) (fits encode room 3) (fits_closed encode room 3) f)

  -- what was written is answered by one 00
  by_room : 3 ≤ room → (records body).ending ≡ done → fs ≡ [] → (b : Bool) → leb 4 room ≡ b
      → (o : Outcome (List ℕ)) → o ≡ answered room (head ++ (0 ∷ [])) (all s) → Way_of o
  unfolding answered
  by_room h e z true g o w =
      wrote (leb-true 4 room g) e z
      (w ∙ rw (le-leb (length (head ++ (0 ∷ []))) room (omega (arith, three, length-append head (0 ∷ []), leb-true 4 room g))))
  by_room h e z false g o w =
      narrow (omega (arith, leb-false 4 room g)) e z
      (w ∙ rw (lt-leb (length (head ++ (0 ∷ []))) room (omega (arith, three, length-append head (0 ∷ []), leb-false 4 room g))))

  by_list : 3 ≤ room → fits encode room 3 fs ≡ true → (e : Ending) → (records body).ending ≡ e → (l : List Failure) → fs ≡ l
      → (o : Outcome (List ℕ)) → o ≡ concluded encode room head (settled all (over e (sofar s l))) → Way_of o
  unfolding concluded encode_failures answered
  by_list h f cut e l z o w = broke h f e w
  by_list h f done e [] z o w = by_room h e z (leb 4 room) refl o w
  by_list h f done e (x ∷ l) z o w =
      let k : 3 + length (encode_all encode (x ∷ l)) ≤ room = fits_within encode room 3 (x ∷ l) (ap (fits encode room 3) (sym z) ∙ f) in
      listed h f e x l z (w ∙ rw (le-leb (length (head ++ encode_all encode (x ∷ l))) room (omega (arith, three, length-append head (encode_all encode (x ∷ l))))))

  -- THE SPLIT
  pub undivided_ways : Way_of (write_undivided form s request body room)
  unfolding fits encode_all
  undivided_ways = go (leb 3 room) refl (fits encode room 3 fs) refl
    where
      none : 3 ≤ room → fits encode room 3 [] ≡ true
      none h = le-leb 3 room h

      go : (b : Bool) → leb 3 room ≡ b → (c : Bool) → fits encode room 3 fs ≡ c → Way_of (write_undivided form s request body room)
      go false e c f = tight (leb-false 3 room e) (small (leb-false 3 room e))
      go true e true f = by_list (leb-true 3 room e) f (records body).ending refl fs refl _ (taken (leb-true 3 room e) f)
      go true e false f =
          full (leb-true 3 room e) f
          (halted
          (judged_halts form request s (checked form request) (checked_leaves form request s) Any (checked_agrees form request s) (records body) (any (records body).list) (fits encode room 3) (fits_closed encode room 3) (none (leb-true 3 room e)) f)
          (leb-true 3 room e))
