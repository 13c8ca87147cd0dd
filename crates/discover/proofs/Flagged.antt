-- The complete byte and the records behind it: the byte is put as 1, and set to 0 where an attribute is left out. Assumes nothing.
use Rattle.std.specs.Prelude.{None, Option, Some}
use mathlib.Core.Path.{◌≡◌, sym, ap, ◌∙◌, subst}
use mathlib.Core.List.{List, [], ◌∷◌, ◌++◌, append_assoc}
use Prim.Native.Nat.{ℕ, ◌+◌, ◌-◌, ◌<◌, min}
use native.Mathlib.Omega.{arith}
use lib.ListN.{length, take, set, length-append, length-set, length-take}
use lib.Seq.{append_snoc, set_at}
use Rattle.types.specs.Number.{zeros}
use Rattle.frame.specs.Reply.{padded}
use Rattle.frame.specs.Inside.Buffer.{putting, put, Shows}
use Rattle.frame.proofs.Buffer.{PutAt, shows_put, shows_full}
use Rattle.store.specs.declared.lookup.Attribute.{Attribute}
use Rattle.discover.specs.declared.attributes.Listing.{Listing}
use Rattle.discover.specs.declared.attributes.Listing.TheVariants.{All, Part}
use Rattle.discover.specs.Inside.{records_of, Scanned, Puts, list_of}
use Rattle.discover.proofs.Choice.{complete_one, complete_zero}

-- a byte of what a buffer shows is set to another one
shows_set : (d : List ℕ) (at o : ℕ) (front : List ℕ) (x y : ℕ) (back : List ℕ) → at ≡ length front → Shows d o (front ++ x ∷ back) → Shows (set d at y) o (front ++ y ∷ back)
unfolding padded
shows_set d at o front x y back e w =
    let l : length (set d at y) ≡ length d = length-set d at y in
    let m : length (front ++ x ∷ back) ≡ length (front ++ y ∷ back) = length-append front (x ∷ back) ∙ sym (length-append front (y ∷ back)) in
    let z : List ℕ = zeros (length d - length (front ++ x ∷ back)) in
    record {
      place = w.place ∙ m;
      within = omega (arith, w.within, l);
      bytes =
          ap (λ (b : List ℕ). set b at y) w.bytes
          ∙ ap (λ (b : List ℕ). set b at y) (append_assoc front (x ∷ back) z)
          ∙ set_at front x (back ++ z) y at (sym e)
          ∙ sym (append_assoc front (y ∷ back) z)
          ∙ (λ k. (front ++ y ∷ back) ++ zeros (sym l k - m k));
    }

-- a buffer that shows something, and the byte put behind it as 1
module _ (d before : List ℕ) (from : ℕ) (w : Shows d from before) (r₁ : Option ℕ) (d₁ : List ℕ) (p : putting r₁ d₁ ≡ put d from (1 ∷ [])) (all : List Attribute) (wanted : ℕ) where
  abbrev some : List Attribute
  some = take wanted all

  some_is : length some ≡ min wanted (length all)
  some_is = length-take wanted all

  -- there is no room for it
  pub list_byteless : r₁ ≡ None → length d < length (before ++ list_of all wanted)
  list_byteless q =
      let f = shows_full d from before (1 ∷ []) r₁ d₁ w p q in
      let l : length (before ++ 1 ∷ []) ≡ length before + 1 = length-append before (1 ∷ []) in
      let m : length (before ++ list_of all wanted) ≡ length before + length (list_of all wanted) = length-append before (list_of all wanted) in
      omega (arith, f.0)

  -- the records are put behind it
  module _ (first : ℕ) (q : r₁ ≡ Some first) (r₂ : Option Listing) (d₂ : List ℕ) (puts : Puts all wanted d₁ first r₂ d₂) where
    flagged : PutAt d before (1 ∷ []) first d₁
    flagged = shows_put d from before (1 ∷ []) r₁ first d₁ w p q

    scanned : (r : Option Listing) → r₂ ≡ r → Scanned all wanted (before ++ 1 ∷ records_of some) (length d) r d₂
    scanned r e =
        subst (λ (x : Option Listing). Scanned all wanted (before ++ 1 ∷ records_of some) (length d) x d₂) e
        (subst (λ (l : List ℕ). Scanned all wanted l (length d) r₂ d₂) (append_snoc before 1 (records_of some)) (subst (λ (k : ℕ). Scanned all wanted (before ++ (1 ∷ []) ++ records_of some) k r₂ d₂) flagged.same (puts (before ++ 1 ∷ []) flagged.shows)))

    -- none is left out
    pub list_all : (o : ℕ) → r₂ ≡ Some (All o) → Shows d₂ o (before ++ list_of all wanted)
    list_all o e =
        let x = scanned (Some (All o)) e in
        subst (Shows d₂ o) (ap (λ (b : ℕ). before ++ b ∷ records_of some) (complete_one all some (omega (arith, x.1, some_is)))) x.0

    -- one is
    pub list_part : (o : ℕ) → r₂ ≡ Some (Part o) → Shows (set d₂ from 0) o (before ++ list_of all wanted)
    list_part o e =
        let x = scanned (Some (Part o)) e in
        subst (Shows (set d₂ from 0) o) (ap (λ (b : ℕ). before ++ b ∷ records_of some) (complete_zero all some (λ k. omega (arith, x.1, some_is, k))))
        (shows_set d₂ from o before 1 0 (records_of some) w.place x.0)

    -- there is no room for them
    pub list_roomless : r₂ ≡ None → length d < length (before ++ list_of all wanted)
    list_roomless e =
        let x : length d < length (before ++ 1 ∷ records_of some) = scanned None e in
        let l : length (before ++ 1 ∷ records_of some) ≡ length before + length (1 ∷ records_of some) = length-append before (1 ∷ records_of some) in
        let m : length (before ++ list_of all wanted) ≡ length before + length (list_of all wanted) = length-append before (list_of all wanted) in
        omega arith
