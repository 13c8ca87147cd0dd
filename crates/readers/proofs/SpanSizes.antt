-- A span of a reply is as long as its layout says at that place; a span with a value reaches behind the value's type. Assumes nothing.
use Rattle.frame.specs.declared.answer.Refusal.{Refusal}
use Rattle.std.specs.Prelude.{Err, Ok, Result, Some}
use mathlib.Core.Path.{◌≡◌, refl, sym, ◌∙◌, subst}
use mathlib.Core.Bool.{Bool, true, false, cond}
use mathlib.Core.List.{List, [], ◌∷◌}
use Prim.Native.Nat.{ℕ, zero, suc, ◌+◌, ◌-◌, ◌≤◌, ◌<◌}
use native.Mathlib.Omega.{arith}
use lib.ListN.{length, take, drop, get_or, length-drop}
use lib.Seq.{get_or-take}
use lib.Dec.{leb, eqb}
use borrow.Author.Tests.{eqb-false}
use Rattle.types.specs.Extent.{extent_of}
use Rattle.types.specs.declared.extent.NoExtent.{NoExtent}
use Rattle.types.proofs.Ends.{extent_ends}
use Rattle.frame.specs.declared.answer.Refusal.TheVariants.{RecordCut, NotSuchAReply}
use Rattle.frame.specs.declared.command_identifier.CommandIdentifier.{CommandIdentifier}
use Rattle.readers.specs.declared.layout.Layout.{Layout}
use Rattle.readers.specs.declared.layout.Layout.TheVariants.{ReadStatus, Report, Discovered}
use Rattle.readers.specs.declared.pass.Swept.{Swept}
use Rattle.readers.proofs.Lengths.{advancing}
use Rattle.readers.specs.Layout.{by_extent, valued, length_of}
use Rattle.readers.specs.declared.pass.Span.{Span}
use Rattle.readers.specs.Reading.{mapped, and_then, kth, body_of, span, first_of, spans_in, spans_from}
use Rattle.readers.specs.Replies.{spans_of, failures_from, failures_of, discovered_from}
use Rattle.readers.specs.Inside.{swept}

-- ---- every span is as long as its first bytes say

module _ (one : List ℕ → Result ℕ Refusal) (f : List ℕ) where
  Long : Result (List Span) Refusal → Type 0
  Long x = (k : ℕ) (s : Span) → kth k x ≡ Ok (Some s) → one (drop s.at f) ≡ Ok s.size

  long_not : (why : Refusal) → Long (Err why)
  unfolding Long
  long_not why k s g = absurd cc

  long_none : Long (Ok [])
  unfolding Long
  long_none k s g = absurd cc

  long_cond : (b : Bool) (x y : Result (List Span) Refusal) → Long x → Long y → Long (cond b x y)
  long_cond true x y h g = h
  long_cond false x y h g = g

  long_first : (p m : ℕ) → one (drop p f) ≡ Ok m → (x : Result (List Span) Refusal) → Long x → Long (mapped (λ xs. span p m ∷ xs) x)
  unfolding Long
  long_first p m e (Ok xs) h zero s g = let same : span p m ≡ s = cc in subst (λ (y : Span). one (drop y.at f) ≡ Ok y.size) same e
  long_first p m e (Ok xs) h (suc k) s g = h k s g
  long_first p m e (Err why) h k s g = absurd cc

  long_by : (p : ℕ) (rest : ℕ → Result (List Span) Refusal) → ((q : ℕ) → Long (rest q)) → (l : Result ℕ Refusal) → one (drop p f) ≡ l → Long (first_of p rest l)
  long_by p rest h (Ok m) e = long_first p m e (rest (p + m)) (h (p + m))
  long_by p rest h (Err why) e = long_not why

  long_in : (n p : ℕ) → Long (spans_in one f n p)
  unfolding spans_in
  long_in zero p = long_not RecordCut
  long_in (suc n) p = long_cond (leb (length f) p) (Ok []) _ long_none (long_by p (spans_in one f n) (long_in n) (one (drop p f)) refl)

  long_from : (p : ℕ) → Long (spans_from one f p)
  unfolding spans_from
  long_from p = long_in (suc (length f - p)) p

  long_body : (y : Result ℕ Refusal) (rest : ℕ → Result (List Span) Refusal) → ((p : ℕ) → Long (rest p)) → Long (and_then y rest)
  long_body (Ok p) rest h = h p
  long_body (Err why) rest h = long_not why

module _ (layout : Layout) (f : List ℕ) (x : Result (List Span) Refusal) (long : Long (length_of layout) f x) (k : ℕ) {s : Swept} {y : Span}
    (e : Ok s ≡ swept k x) (i : s.kth ≡ Some y) where
  long-at : length_of layout (drop y.at f) ≡ Ok y.size
  unfolding Long
  long-at = long k y (found x e i)
    where
      found : (x : Result (List Span) Refusal) → Ok s ≡ swept k x → s.kth ≡ Some y → kth k x ≡ Ok (Some y)
      found (Ok l) e i = cc
      found (Err why) e i = absurd cc

  within-at : y.at + y.size ≤ length f
  within-at = omega (arith, advancing layout (drop y.at f) y.size long-at, length-drop y.at f)

-- where a pass found record k

module _ (command : CommandIdentifier) (layout : Layout) (f : List ℕ) where
  long_spans : Long (length_of layout) f (spans_of command layout f)
  unfolding spans_of
  long_spans = long_body (length_of layout) f (body_of command f) _ (long_from (length_of layout) f)

  pub span_long : (k : ℕ) {s : Swept} {y : Span} → Ok s ≡ swept k (spans_of command layout f) → s.kth ≡ Some y → length_of layout (drop y.at f) ≡ Ok y.size
  span_long k e i = long-at layout f _ long_spans k e i

  pub span_within : (k : ℕ) {s : Swept} {y : Span} → Ok s ≡ swept k (spans_of command layout f) → s.kth ≡ Some y → y.at + y.size ≤ length f
  span_within k e i = within-at layout f _ long_spans k e i

  long_failures : (p : ℕ) → Long (length_of layout) f (failures_from layout f p)
  unfolding failures_from
  long_failures p =
      long_cond _ f _ _ _ (long_not _ f RecordCut) (long_cond _ f _ _ _ (long_none _ f) (long_from (length_of layout) f p))

  pub failure_within : (k : ℕ) {s : Swept} {y : Span} → Ok s ≡ swept k (failures_of command layout f) → s.kth ≡ Some y → y.at + y.size ≤ length f
  unfolding failures_of
  failure_within k e i = within-at layout f _ (long_body (length_of layout) f (body_of command f) _ long_failures) k e i

pub discovered_within : (f : List ℕ) (p k : ℕ) {s : Swept} {y : Span} → Ok s ≡ swept k (discovered_from f p) → s.kth ≡ Some y → y.at + y.size ≤ length f
unfolding discovered_from
discovered_within f p k e i =
    within-at Discovered f _ (long_cond _ f _ _ _ (long_not _ f RecordCut) (long_cond _ f _ _ _ (long_from (length_of Discovered) f (p + 1)) (long_not _ f NotSuchAReply))) k e i

-- ---- a value lies behind its type

end_behind : (l : List ℕ) (p t m : ℕ) (x : Result ℕ NoExtent) → extent_of l p t ≡ x → by_extent x ≡ Ok m → p ≤ m
end_behind l p t m (Ok q) e h = let z : q ≡ m = cc in subst (λ (y : ℕ). p ≤ y) z (extent_ends l p t q e).0
end_behind l p t m (Err why) e h = absurd cc

pub valued_behind : (p : ℕ) (l : List ℕ) (m : ℕ) → valued p l ≡ Ok m → p + 1 ≤ m
unfolding valued
valued_behind p l m h = go (leb (p + 1) (length l)) h
  where
    go : (b : Bool) → cond b (by_extent (extent_of l (p + 1) (get_or l p 0))) (Err RecordCut) ≡ Ok m → p + 1 ≤ m
    go true g = end_behind l (p + 1) (get_or l p 0) m (extent_of l (p + 1) (get_or l p 0)) refl g
    go false g = absurd cc

pub report_behind : (l : List ℕ) (m : ℕ) → length_of Report l ≡ Ok m → 3 ≤ m
unfolding length_of
report_behind l m h = valued_behind 2 l m h

-- a read reply's record has a value where its status is 00
pub read_behind : (l : List ℕ) (m : ℕ) → length_of ReadStatus l ≡ Ok m → get_or (take m l) 2 0 ≡ 0 → 4 ≤ m
unfolding length_of
read_behind l m h s = whole (leb 3 (length l)) h
  where
    status : (b : Bool) → eqb (get_or l 2 0) 0 ≡ b → cond b (valued 3 l) (Ok 3) ≡ Ok m → 4 ≤ m
    status true e g = valued_behind 3 l m g
    status false e g =
        let z : 3 ≡ m = cc in absurd (eqb-false (get_or l 2 0) 0 e (sym (get_or-take m l 2 0 (subst (λ (y : ℕ). 2 < y) z (omega arith))) ∙ s))

    whole : (b : Bool) → cond b (cond (eqb (get_or l 2 0) 0) (valued 3 l) (Ok 3)) (Err RecordCut) ≡ Ok m → 4 ≤ m
    whole true g = status (eqb (get_or l 2 0) 0) refl g
    whole false g = absurd cc
