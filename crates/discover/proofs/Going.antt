-- The loop that puts the records: what the buffer shows and what is left are always the same bytes. Assumes nothing.
use Rattle.std.specs.Prelude.{None, Option, Some}
use mathlib.Core.Path.{◌≡◌, refl, sym, ap, ◌∙◌, subst}
use mathlib.Core.List.{List, [], ◌∷◌, ◌++◌, append_assoc, append-nil}
use Prim.Native.Nat.{ℕ, suc, ◌+◌, ◌-◌, ◌≤◌, ◌<◌}
use native.Mathlib.Omega.{arith}
use lib.ListN.{length, take, length-append}
use lib.Seq.{take-nil}
use Rattle.frame.specs.Inside.Buffer.{putting, put, Shows}
use Rattle.frame.specs.Encoded.{encode_all}
use Rattle.frame.proofs.Buffer.{shows_put, shows_full}
use Rattle.store.specs.declared.lookup.Attribute.{Attribute}
use Rattle.store.specs.Contents.{count_of, attribute_at, attributes_of}
use Rattle.discover.specs.Discover.{encode, at_or_after, discovered, discovered_all}
use Rattle.discover.specs.Inside.{records_of}
use Rattle.discover.proofs.Choice.{onward, onward_all, onward_end, onward_take, onward_skip}

-- where the loop stands: what the buffer shows, that with the records of what is left it is the whole, and that as many are put as
-- are passed
pub record Going (s : List ℕ) (n start wanted : ℕ) (whole reply : List ℕ) (left out i : ℕ) : Type 0 where
  pub shown : List ℕ
  pub shows : Shows reply out shown
  pub same : shown ++ records_of (take left (onward s n start i)) ≡ whole
  pub counts : left + length (onward s n start 0) ≡ wanted + length (onward s n start i)

pub going_first : (s : List ℕ) (n start : ℕ) (before reply : List ℕ) (wanted out : ℕ) → n ≡ count_of s → Shows reply out before
    → Going s n start wanted (before ++ records_of (take wanted (at_or_after start (attributes_of 8 s)))) reply wanted out 0
going_first s n start before reply wanted out e w =
    record { shown = before; shows = w; same = ap (λ (l : List Attribute). before ++ records_of (take wanted l)) (onward_all s n start e); counts = refl }

take_next : (left : ℕ) (a : Attribute) (l : List Attribute) → 0 < left → take left (a ∷ l) ≡ a ∷ take (left - 1) l
take_next left a l h = let e : left ≡ suc (left - 1) = omega arith in ap (λ (k : ℕ). take k (a ∷ l)) e

module _ (s : List ℕ) (n start wanted : ℕ) (whole reply : List ℕ) (left out i : ℕ) (g : Going s n start wanted whole reply left out i) where
  shown_all : records_of (take left (onward s n start i)) ≡ [] → Shows reply out whole
  shown_all e = subst (Shows reply out) (sym (append-nil g.shown) ∙ ap (λ (l : List ℕ). g.shown ++ l) (sym e) ∙ g.same) g.shows

  -- there are no more: those that were put are all
  pub going_end : n ≡ count_of s → n ≤ i → Shows reply out whole × (length (at_or_after start (attributes_of 8 s)) ≤ wanted)
  unfolding encode_all discovered_all
  going_end e h = (
    shown_all (ap (λ (l : List Attribute). records_of (take left l)) (onward_end s n start i h) ∙ ap records_of (take-nil left)),
    omega (arith, g.counts, ap length (onward_end s n start i h), ap length (onward_all s n start e)),
  )

  module _ (a : Attribute) (h : i < n) (is : a ≡ attribute_at 8 s i) where
    -- as many as are wanted were put, and the next one is left out
    pub going_more : n ≡ count_of s → left ≡ 0 → start ≤ a.name.0 → Shows reply out whole × (wanted < length (at_or_after start (attributes_of 8 s)))
    unfolding encode_all discovered_all
    going_more e z k = (
      shown_all (ap (λ (j : ℕ). records_of (take j (onward s n start i))) z),
      omega (arith, z, g.counts, ap length (onward_take s n start i a h is k), ap length (onward_all s n start e)),
    )

    -- the next one is before the start
    pub going_skip : a.name.0 < start → Going s n start wanted whole reply left out (i + 1)
    going_skip k =
        record {
          shown = g.shown;
          shows = g.shows;
          same = ap (λ (l : List Attribute). g.shown ++ records_of (take left l)) (sym (onward_skip s n start i a h is k)) ∙ g.same;
          counts = omega (arith, g.counts, ap length (onward_skip s n start i a h is k));
        }

    module _ (l : 0 < left) (k : start ≤ a.name.0) (r : Option ℕ) (after : List ℕ) (p : putting r after ≡ put reply out (encode (discovered a))) where
      rest : List ℕ
      rest = records_of (take (left - 1) (onward s n start (i + 1)))

      step : g.shown ++ encode (discovered a) ++ rest ≡ whole
      unfolding encode_all discovered_all rest
      step =
          append_assoc g.shown (encode (discovered a)) (records_of (take (left - 1) (onward s n start (i + 1))))
          ∙ ap (λ (x : List Attribute). g.shown ++ records_of x) (sym (take_next left a (onward s n start (i + 1)) l) ∙ ap (take left) (sym (onward_take s n start i a h is k)))
          ∙ g.same

      -- its record fits
      pub going_put : (o : ℕ) → r ≡ Some o → Going s n start wanted whole after (left - 1) o (i + 1)
      unfolding rest
      going_put o q =
          record {
            shown = g.shown ++ encode (discovered a);
            shows = (shows_put reply out g.shown (encode (discovered a)) r o after g.shows p q).shows;
            same = step;
            counts = omega (arith, l, g.counts, ap length (onward_take s n start i a h is k));
          }

      -- it does not
      pub going_full : r ≡ None → length reply < length whole
      going_full q =
          let w = shows_full reply out g.shown (encode (discovered a)) r after g.shows p q in
          let m : length (g.shown ++ encode (discovered a) ++ rest) ≡ length (g.shown ++ encode (discovered a)) + length rest = length-append (g.shown ++ encode (discovered a)) rest in
          let e : length (g.shown ++ encode (discovered a) ++ rest) ≡ length whole = ap length step in
          omega (arith, w.0)

-- the same under other names for the buffer and the two numbers
pub going_as : (s : List ℕ) (n start wanted : ℕ) (whole reply reply₂ : List ℕ) (left left₂ out out₂ i : ℕ) → reply₂ ≡ reply → left₂ ≡ left → out₂ ≡ out
    → Going s n start wanted whole reply left out i → Going s n start wanted whole reply₂ left₂ out₂ i
going_as s n start wanted whole reply reply₂ left left₂ out out₂ i p q r g =
    record {
      shown = g.shown;
      shows = subst (λ (d : List ℕ). Shows d out₂ g.shown) (sym p) (subst (λ (k : ℕ). Shows reply k g.shown) (sym r) g.shows);
      same = ap (λ (k : ℕ). g.shown ++ records_of (take k (onward s n start i))) q ∙ g.same;
      counts = ap (λ (k : ℕ). k + length (onward s n start 0)) q ∙ g.counts;
    }
