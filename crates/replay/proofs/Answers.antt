-- Laws of the answers to a frame (`specs/Commands.antt`). Assumes nothing.
use Rattle.std.specs.Prelude.{None, Option, Result, Some}
use mathlib.Core.Path.{◌≡◌, refl, sym, ap, ◌∙◌, subst}
use mathlib.Core.Bool.{Bool, true, false}
use mathlib.Core.List.{List, [], ◌∷◌, ◌++◌}
use Prim.Native.Nat.{ℕ, suc, ◌+◌, ◌-◌, ◌%◌, ◌≤◌, ◌<◌}
use native.Mathlib.Omega.{arith}
use native.Mathlib.Numerals.{add-one}
use lib.ListN.{length, get_or, take, drop, length-drop}
use lib.Dec.{leb, eqb}
use borrow.Author.Tests.{eqb-true, eqb-false, eq-eqb, ne_eqb, lt-ltb, le-ltb, leb-true, leb-false}
use Rattle.std.specs.Option.{option_eq}
use Rattle.types.specs.Number.{unsigned_at}
use Rattle.frame.specs.Answer.{Outcome, answer_number, answer_length, seen}
use Rattle.frame.specs.declared.answer.Refusal.{Refusal}
use Rattle.frame.specs.Header.{is_global}
use Rattle.frame.specs.declared.header.FrameType.{FrameType}
use Rattle.frame.specs.declared.header.FrameType.TheVariants.{GlobalCommand, ClusterCommand, Reserved}
use Rattle.frame.specs.declared.header.ZclHeader.{ZclHeader}
use Rattle.frame.specs.contracts.header.FrameType as frame-type
use denote.Enum.Bare.{sameb}
use Rattle.replay.specs.Bytes.{same}
use Rattle.replay.specs.Ours.{agreement}
use Rattle.replay.specs.Commands.{asked_of, outcome_of, store_says, answer_says, answer_with, next, answers_from, answers, answers_to, of_command}
use Rattle.replay.specs.declared.commands.Command.{Command}
use Rattle.replay.specs.declared.commands.Place.{Place}
use Rattle.replay.specs.Inside.{again, Lies, Goes, Stops, Turns, Turned, matched}
use Rattle.replay.proofs.Matches.{same_take, same_is, starts_take, matched_at, matched_ends, matched_on, matched_off, same_on, same_none, same_nil}

-- ---- what a frame asks for

-- the derived equality tells a global command from the other types
pub same_global : (t : FrameType) → sameb frame-type.the_type t GlobalCommand ≡ is_global t
same_global GlobalCommand = refl
same_global ClusterCommand = refl
same_global Reserved = refl

-- ---- one answer

pub store_same : (before after : List ℕ) → same after before ≡ true → store_says before after ≡ 0 ∷ []
unfolding store_says
store_same before after e = rw e

pub store_other : (before after : List ℕ) → same after before ≡ false → store_says before after ≡ 1 ∷ after
unfolding store_says
store_other before after e = rw e

-- its parts, as the code compares them
module _ (held : List ℕ) (at : ℕ) (answer : Result ℕ Refusal) (reply before after : List ℕ) (n m l : ℕ) (en : n ≡ answer_length answer) (em : m ≡ answer_number answer) (el : l ≡ n % 256) where
  answer_is : (1 ∷ m ∷ l ∷ []) ++ (take n reply ++ store_says before after) ≡ answer_says before (seen answer reply after)
  unfolding answer_says
  answer_is =
      let k : l ≡ answer_length answer % 256 = el ∙ ap (λ (x : ℕ). x % 256) en in
      λ i. 1 ∷ em i ∷ k i ∷ (take (en i) reply ++ store_says before after)

  pub answer_first : matched held at (1 ∷ m ∷ l ∷ []) ≡ None → None ≡ matched held at (answer_says before (seen answer reply after))
  answer_first h = sym (matched_off held at (1 ∷ m ∷ l ∷ []) (take n reply ++ store_says before after) h) ∙ ap (matched held at) answer_is

  module _ (o : ℕ) (h : matched held at (1 ∷ m ∷ l ∷ []) ≡ Some o) where
    behind_head : matched held o (take n reply ++ store_says before after) ≡ matched held at (answer_says before (seen answer reply after))
    behind_head = sym (matched_on held at (1 ∷ m ∷ l ∷ []) (take n reply ++ store_says before after) o h) ∙ ap (matched held at) answer_is

    pub answer_second : matched held o (take n reply) ≡ None → None ≡ matched held at (answer_says before (seen answer reply after))
    answer_second k = sym (matched_off held o (take n reply) (store_says before after) k) ∙ behind_head

    pub answer_third : (q : ℕ) → matched held o (take n reply) ≡ Some q → (r : Option ℕ) → r ≡ matched held q (store_says before after) → r ≡ matched held at (answer_says before (seen answer reply after))
    answer_third q k r e = e ∙ sym (matched_on held o (take n reply) (store_says before after) q k) ∙ behind_head

-- ---- an answer behind the one before it

pub again_ends : (held : List ℕ) (p : Place) (this : List ℕ) → option_eq eqb (matched held p.from this) (Some p.to) ≡ again held p this
unfolding again
again_ends held p this = matched_ends held p.from this p.to

eqb_shift : (a b c : ℕ) → a ≤ c → eqb (a + b) c ≡ eqb b (c - a)
eqb_shift a b c h = go (eqb b (c - a)) refl
  where
    go : (x : Bool) → eqb b (c - a) ≡ x → eqb (a + b) c ≡ x
    go true e = eq-eqb (a + b) c (omega (arith, eqb-true b (c - a) e))
    go false e = let n = eqb-false b (c - a) e in ne_eqb (a + b) c (λ q. n (omega arith))

module _ (held : List ℕ) (p : Place) (this last : List ℕ) (lies : Lies held p last) where
  again_same : again held p this ≡ same this last
  unfolding again
  again_same =
      let o = lies.ordered in
      let b = lies.before in
      let w = lies.within in
      let k : p.to - p.from ≤ length (drop p.from held) = simp length-drop (omega arith) in
      rw (eqb_shift p.from (length this) p.to o)
      (sym (ap (same this) (sym lies.is) ∙ same_take this (p.to - p.from) (drop p.from held) k))

  next_again : again held p this ≡ true → next last this ≡ 0 ∷ []
  unfolding next
  next_again e = rw (sym again_same ∙ e)

  next_new : again held p this ≡ false → next last this ≡ this
  unfolding next
  next_new e = rw (sym again_same ∙ e)

  more_on : (bytes rest : List ℕ) (o : ℕ) → next last this ≡ bytes → matched held p.at bytes ≡ Some o → same (next last this ++ rest) (drop p.at held) ≡ same rest (drop o held)
  more_on bytes rest o e h = ap (λ (l : List ℕ). same (l ++ rest) (drop p.at held)) e ∙ same_on held p.at bytes rest o h

  more_off : (bytes : List ℕ) → next last this ≡ bytes → matched held p.at bytes ≡ None → Stops held p (next last this)
  more_off bytes e h = record { none = λ rest. ap (λ (l : List ℕ). same (l ++ rest) (drop p.at held)) e ∙ same_none held p.at bytes rest h }

  -- what was matched lies within
  matched_within : (bytes : List ℕ) (o : ℕ) → matched held p.at bytes ≡ Some o → (o ≡ p.at + length bytes) × (o ≤ length held)
  matched_within bytes o h =
      let r = matched_at held p.at bytes o h in
      let k : length bytes ≤ length held - p.at = simp length-drop at (starts_take bytes (drop p.at held) r.0).1 in
      let w = lies.within in
      (r.1, omega (arith, r.1))

  pub turn_again : (o : ℕ) → again held p this ≡ true → matched held p.at (0 ∷ []) ≡ Some o → Goes held p (next last this) this (record { from = p.from; to = p.to; at = o })
  turn_again o e h =
      let w = matched_within (0 ∷ []) o h in
      let b = lies.before in
      record {
        lies = record { is = lies.is ∙ sym (same_is this last (sym again_same ∙ e)); ordered = lies.ordered; before = omega (arith, w.0); within = w.1 };
        more = λ rest. more_on (0 ∷ []) rest o (next_again e) h;
      }

  pub turn_again_off : again held p this ≡ true → matched held p.at (0 ∷ []) ≡ None → Stops held p (next last this)
  turn_again_off e h = more_off (0 ∷ []) (next_again e) h

  pub turn_new : (o : ℕ) → again held p this ≡ false → matched held p.at this ≡ Some o → Goes held p (next last this) this (record { from = p.at; to = o; at = o })
  turn_new o e h =
      let w = matched_within this o h in
      let r = matched_at held p.at this o h in
      let k : o - p.at ≡ length this = omega (arith, w.0) in
      record {
        lies = record { is = ap (λ (i : ℕ). take i (drop p.at held)) k ∙ (starts_take this (drop p.at held) r.0).0; ordered = omega (arith, w.0); before = omega arith; within = w.1 };
        more = λ rest. more_on this rest o (next_new e) h;
      }

  pub turn_new_off : again held p this ≡ false → matched held p.at this ≡ None → Stops held p (next last this)
  turn_new_off e h = more_off this (next_new e) h

-- what a command leaves, by its function
pub called : (request : ZclHeader) (body s : List ℕ) (room : ℕ) (command k : Command) (o : Outcome (List ℕ)) → command ≡ k → o ≡ outcome_of k request body s room → o ≡ outcome_of command request body s room
called request body s room command k o e f = f ∙ ap (λ (x : Command). outcome_of x request body s room) (sym e)

-- an answer to the store that was laid into a buffer is one to the store
pub turned_with : (held : List ℕ) (p : Place) (r : Option Place) (command : Command) (request : ZclHeader) (body s copy : List ℕ) (room : ℕ) (this : Outcome (List ℕ)) → copy ≡ s → this ≡ outcome_of command request body copy room
    → Turned held p (answer_says s this) r → Turned held p (answer_with command request body s room) r
turned_with held p r command request body s copy room this e f t =
    subst (λ (x : List ℕ). Turned held p x r) (ap (answer_says s) (f ∙ ap (λ (x : List ℕ). outcome_of command request body x room) e)) t

-- ---- the answers with every room

-- up to a room all were told: what is left of them, from the place on, is the whole
pub record Going (tells : ℕ → List ℕ) (last : ℕ) (held : List ℕ) (p : Place) (room : ℕ) : Type 0 where
  pub answer : List ℕ
  pub lies : Lies held p answer
  pub left : same (answers_from tells answer (suc last - room) room) (drop p.at held) ≡ same (answers tells last) held

module _ (tells : ℕ → List ℕ) (last : ℕ) (held : List ℕ) where
  module _ (p : Place) (room : ℕ) (g : Going tells last held p room) where
    step : room ≤ last → answers_from tells g.answer (suc last - room) room ≡ next g.answer (tells room) ++ answers_from tells (tells room) (suc last - (room + 1)) (room + 1)
    unfolding answers_from
    step h = let z : suc last - room ≡ suc (suc last - (room + 1)) = omega arith in rw (z, add-one room)

    pub going_more : room ≤ last → (r : Option Place) (q : Place) → r ≡ Some q → Turned held p (tells room) r → Going tells last held q (room + 1)
    going_more h r q e t =
        let w : Goes held p (next g.answer (tells room)) (tells room) q = subst (Turns held p (next g.answer (tells room)) (tells room)) e (t g.answer g.lies) in
        record {
          answer = tells room;
          lies = w.lies;
          left = sym (w.more (answers_from tells (tells room) (suc last - (room + 1)) (room + 1))) ∙ ap (λ (l : List ℕ). same l (drop p.at held)) (sym (step h)) ∙ g.left;
        }

    pub going_off : room ≤ last → (r : Option Place) → r ≡ None → Turned held p (tells room) r → false ≡ same (answers tells last) held
    going_off h r e t =
        let w : Stops held p (next g.answer (tells room)) = subst (Turns held p (next g.answer (tells room)) (tells room)) e (t g.answer g.lies) in
        sym (w.none (answers_from tells (tells room) (suc last - (room + 1)) (room + 1))) ∙ ap (λ (l : List ℕ). same l (drop p.at held)) (sym (step h)) ∙ g.left

    end : leb (length held) p.at ≡ eqb (length (drop p.at held)) 0
    end = rw (length-drop p.at held) (go (leb (length held) p.at) refl)
      where
        go : (x : Bool) → leb (length held) p.at ≡ x → x ≡ eqb (length held - p.at) 0
        go true e = sym (eq-eqb (length held - p.at) 0 (omega (arith, leb-true (length held) p.at e)))
        go false e = sym (ne_eqb (length held - p.at) 0 (λ q. absurd (omega (arith, leb-false (length held) p.at e, q))))

    pub going_done : last < room → leb (length held) p.at ≡ same (answers tells last) held
    unfolding answers_from
    going_done h =
        let z : suc last - room ≡ 0 = omega arith in
        let k : same (answers_from tells g.answer 0 room) (drop p.at held) ≡ same (answers tells last) held = ap (λ (i : ℕ). same (answers_from tells g.answer i room) (drop p.at held)) (sym z) ∙ g.left in
        end ∙ sym (same_nil (drop p.at held)) ∙ k

-- ---- the input

module _ (input held : List ℕ) (last n : ℕ) (el : last ≡ get_or input 0 0) (en : n ≡ unsigned_at input 1 2) where
  pub command_room : 63 < last → None ≡ agreement (of_command input) held
  unfolding of_command
  command_room h = let k : 63 < get_or input 0 0 = omega arith in rw (lt-ltb 63 (get_or input 0 0) k)

  pub command_short : last ≤ 63 → length input < 3 + n → None ≡ agreement (of_command input) held
  unfolding of_command
  command_short h l =
      let k : get_or input 0 0 ≤ 63 = omega arith in
      let m : length input < 3 + unsigned_at input 1 2 = omega arith in
      rw (le-ltb 63 (get_or input 0 0) k, lt-ltb (length input) (3 + unsigned_at input 1 2) m)

  module _ (h : last ≤ 63) (l : 3 + n ≤ length input) (frame : List ℕ) (ef : frame ≡ drop (3 + n) input) where
    command_is : agreement (answers_to (asked_of frame) last (take n (drop 3 input)) frame) held ≡ agreement (of_command input) held
    unfolding of_command
    command_is =
        let k : get_or input 0 0 ≤ 63 = omega arith in
        let m : 3 + unsigned_at input 1 2 ≤ length input = omega arith in
        let f : frame ≡ drop (3 + unsigned_at input 1 2) input = ef ∙ ap (λ (i : ℕ). drop (3 + i) input) en in
        rw (le-ltb 63 (get_or input 0 0) k, le-ltb (length input) (3 + unsigned_at input 1 2) m)
        (λ i. agreement (answers_to (asked_of (f i)) (el i) (take (en i) (drop 3 input)) (f i)) held)

    pub command_none : asked_of frame ≡ None → None ≡ agreement (of_command input) held
    command_none e = ap (λ (a : Option (Command × ZclHeader)). agreement (answers_to a last (take n (drop 3 input)) frame) held) (sym e) ∙ command_is

    pub command_says : (command : Command) (request : ZclHeader) (body s : List ℕ) → asked_of frame ≡ Some (command, request) → body ≡ drop request.body frame → s ≡ take n (drop 3 input)
        → Some (same (answers (answer_with command request body s) last) held) ≡ agreement (of_command input) held
    command_says command request body s e eb es =
        (λ i. Some (same (answers (answer_with command request (eb i) (es i)) last) held))
        ∙ ap (λ (a : Option (Command × ZclHeader)). agreement (answers_to a last (take n (drop 3 input)) frame) held) (sym e)
        ∙ command_is
