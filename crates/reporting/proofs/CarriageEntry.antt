-- An entry as the numbers of its slot. Assumes nothing.
use Prim.Native.Nat.{ℕ, ◌^◌, ◌<◌}
use mathlib.Core.Path.{◌≡◌, refl, ap, sym, ◌∙◌, subst}
use mathlib.Core.Bool.{Bool, true, false, cond, ◌&&◌, ◌||◌, true≢false}
use mathlib.Core.List.{List, [], ◌∷◌}
use native.Mathlib.Omega.{arith}
use native.Mathlib.Nat.{mod-lt}
use lib.ListN.{get_or}
use lib.Pow.{pow_pos}
use lib.Dec.{leb, eqb}
use lib.IntN.{ℤ, pos, negsuc}
use lib.Signed.{mag}
use borrow.Author.Tests.{leb-true, eqb-true, eqb-false}
use Rattle.types.specs.Number.{AllBytes, signed_of, residue}
use Rattle.types.proofs.Numbers.{signed_low}
use Rattle.types.proofs.Readings.{signed_in, residue_signed, signed_residue}
use Rattle.reporting.specs.declared.entry.Entry.{Entry}
use Rattle.reporting.specs.Entries.{fresh}
use Rattle.reporting.specs.Carried.{widths, if_marked, numbers_in, numbers_of, entry_of, is_slot, quieted}
use Rattle.reporting.specs.Claims.RoundTrip.{Clean}
use Rattle.reporting.proofs.Carriage.{Within, within_numbers, both}

residue_below : (z : ℤ) → residue (2 ^ 64) z < 2 ^ 64
unfolding residue
residue_below (pos n) = mod-lt n (pow_pos 64)
residue_below (negsuc n) = omega arith

pub told_below : (b : Bool) (n m : ℕ) → n < m → if_marked b n < m
told_below true n m h = h
told_below false n m h = omega arith

-- an entry's numbers fit the widths, and are in form
pub entry_within : (e : Entry) → Clean e → Within widths (numbers_of e)
unfolding numbers_of
entry_within e h =
    let u = told_below e.config.unsigned 1 (2 ^ 8) (omega arith) in
    let f = told_below e.marked 1 (2 ^ 8) (omega arith) in
    let t = told_below e.marked e.last_time (2 ^ 32) h.time in
    let v = told_below e.marked (residue (2 ^ 64) e.last_value) (2 ^ 64) (residue_below e.last_value) in
    (h.cluster, (h.attribute, (h.minimum, (h.maximum, (h.change, (u, (f, (t, (v, refl)))))))))

pub entry_in_form : (e : Entry) → is_slot (numbers_of e) ≡ true
unfolding numbers_of is_slot
entry_in_form e = λ i. mark_ok e.config.unsigned i && go e.marked e.last_time (residue (2 ^ 64) e.last_value) i
  where
    mark_ok : (u : Bool) → leb (if_marked u 1) 1 ≡ true
    mark_ok true = refl
    mark_ok false = refl

    go : (b : Bool) (t v : ℕ) → (leb (if_marked b 1) 1 && (eqb (if_marked b 1) 1 || (eqb (if_marked b t) 0 && eqb (if_marked b v) 0))) ≡ true
    go true t v = refl
    go false t v = refl

-- ENTRY TO NUMBERS AND BACK
pub flag_back : (b : Bool) → eqb (if_marked b 1) 1 ≡ b
flag_back true = refl
flag_back false = refl

time_back : (b : Bool) (t : ℕ) → (b ≡ false → t ≡ 0) → if_marked b t ≡ t
time_back true t h = refl
time_back false t h = sym (h refl)

value_back : (b : Bool) (v : ℤ) → mag v < 2 ^ 63 → (b ≡ false → v ≡ pos 0) → signed_of 8 (if_marked b (residue (2 ^ 64) v)) ≡ v
value_back true v m h = signed_residue 8 v (omega arith) m
value_back false v m h = signed_low 8 0 (omega arith) ∙ sym (h refl)

pub entry_back : (e : Entry) → Clean e → entry_of (numbers_of e) ≡ e
unfolding numbers_of entry_of
entry_back e h = λ i. record {
  key = e.key;
  config = record {
    min_interval = e.config.min_interval;
    max_interval = e.config.max_interval;
    reportable_change = e.config.reportable_change;
    unsigned = flag_back e.config.unsigned i;
  };
  marked = flag_back e.marked i;
  last_time = time_back e.marked e.last_time (λ q. (h.quiet q).0) i;
  last_value = value_back e.marked e.last_value h.value (λ q. (h.quiet q).1) i;
}

-- ---- what its form says of a slot's flag f, time t and value v
module _ (f t v : ℕ) where
  abbrev FormOf : Bool → Type 0
  FormOf marked = (leb f 1 && (marked || (eqb t 0 && eqb v 0))) ≡ true

  -- under flag 0 there is no time and no value
  none_told : eqb f 1 ≡ false → FormOf false → (f ≡ 0) × ((t ≡ 0) × (v ≡ 0))
  none_told e h =
      let p = both (leb f 1) (eqb t 0 && eqb v 0) h in
      let r = both (eqb t 0) (eqb v 0) p.1 in
      (omega (arith, leb-true f 1 p.0, eqb-false f 1 e), (eqb-true t 0 r.0, eqb-true v 0 r.1))

  flag_told : (m : Bool) → eqb f 1 ≡ m → FormOf m → if_marked m 1 ≡ f
  flag_told true e h = sym (eqb-true f 1 e)
  flag_told false e h = sym (none_told e h).0

  time_told : (m : Bool) → eqb f 1 ≡ m → FormOf m → if_marked m t ≡ t
  time_told true e h = refl
  time_told false e h = sym (none_told e h).1.0

  value_told : (m : Bool) → v < 2 ^ 64 → eqb f 1 ≡ m → FormOf m → if_marked m (residue (2 ^ 64) (signed_of 8 v)) ≡ v
  value_told true b e h = residue_signed 8 v b
  value_told false b e h = sym (none_told e h).1.1

  still : FormOf (eqb f 1) → eqb f 1 ≡ false → (t ≡ 0) × (signed_of 8 v ≡ pos 0)
  still h e =
      let n = (none_told e (subst FormOf e h)).1 in
      (n.0, ap (signed_of 8) n.1 ∙ signed_low 8 0 (omega arith))

-- a mark of 0 or 1 is told as it was
pub mark_told : (u : ℕ) → leb u 1 ≡ true → if_marked (eqb u 1) 1 ≡ u
mark_told u h = go (eqb u 1) refl
  where
    go : (b : Bool) → eqb u 1 ≡ b → if_marked b 1 ≡ u
    go true e = sym (eqb-true u 1 e)
    go false e = omega (arith, leb-true u 1 h, eqb-false u 1 e)

-- NUMBERS TO ENTRY AND BACK, for a slot in form
pub slot_back : (bs : List ℕ) → AllBytes bs → is_slot (numbers_in widths bs) ≡ true → numbers_of (entry_of (numbers_in widths bs)) ≡ numbers_in widths bs
unfolding numbers_of entry_of is_slot numbers_in
slot_back bs h p =
    let ns : List ℕ = numbers_in widths bs in
    let u : ℕ = get_or ns 5 0 in
    let f : ℕ = get_or ns 6 0 in
    let t : ℕ = get_or ns 7 0 in
    let v : ℕ = get_or ns 8 0 in
    let b : v < 2 ^ 64 = (within_numbers widths bs h).1.1.1.1.1.1.1.1.0 in
    let q = both (leb u 1) (leb f 1 && (eqb f 1 || (eqb t 0 && eqb v 0))) p in
    λ i.
    get_or ns 0 0
    ∷ get_or ns 1 0
    ∷ get_or ns 2 0
    ∷ get_or ns 3 0
    ∷ get_or ns 4 0
    ∷ mark_told u q.0 i
    ∷ flag_told f t v (eqb f 1) refl q.1 i
    ∷ time_told f t v (eqb f 1) refl q.1 i
    ∷ value_told f t v (eqb f 1) b refl q.1 i
    ∷ []

-- what a slot's form says beside its mark
flag_form : (ns : List ℕ) → is_slot ns ≡ true → FormOf (get_or ns 6 0) (get_or ns 7 0) (get_or ns 8 0) (eqb (get_or ns 6 0) 1)
unfolding is_slot
flag_form ns p = (both (leb (get_or ns 5 0) 1) (leb (get_or ns 6 0) 1 && (eqb (get_or ns 6 0) 1 || (eqb (get_or ns 7 0) 0 && eqb (get_or ns 8 0) 0))) p).1

-- such an entry has one form
pub slot_clean : (bs : List ℕ) → AllBytes bs → is_slot (numbers_in widths bs) ≡ true → Clean (entry_of (numbers_in widths bs))
unfolding entry_of numbers_in
slot_clean bs h p =
    let ns : List ℕ = numbers_in widths bs in
    let w = within_numbers widths bs h in
    record {
      cluster = w.0;
      attribute = w.1.0;
      minimum = w.1.1.0;
      maximum = w.1.1.1.0;
      change = w.1.1.1.1.0;
      time = w.1.1.1.1.1.1.1.0;
      value = signed_in 8 (get_or ns 8 0) w.1.1.1.1.1.1.1.1.0;
      quiet = still (get_or ns 6 0) (get_or ns 7 0) (get_or ns 8 0) (flag_form ns p);
    }

-- ---- an entry as its bytes tell it

-- the same numbers
pub quieted_numbers : (e : Entry) → numbers_of (quieted e) ≡ numbers_of e
unfolding numbers_of
quieted_numbers e = go e.marked refl
  where
    go : (b : Bool) → e.marked ≡ b → numbers_of (cond b e (fresh e.key e.config)) ≡ numbers_of e
    go true h = refl
    go false h = sym (rw h)

-- within the widths, in one form
pub quieted_clean : (e : Entry) → e.key.cluster.0 < 2 ^ 16 → e.key.attribute.0 < 2 ^ 16 → e.config.min_interval < 2 ^ 16 → e.config.max_interval < 2 ^ 16
    → e.config.reportable_change < 2 ^ 64 → e.last_time < 2 ^ 32 → mag e.last_value < 2 ^ 63 → Clean (quieted e)
quieted_clean e c a m x d t v = go e.marked refl
  where
    go : (b : Bool) → e.marked ≡ b → Clean (cond b e (fresh e.key e.config))
    go true h = record { cluster = c; attribute = a; minimum = m; maximum = x; change = d; time = t; value = v; quiet = λ q. absurd (true≢false (sym h ∙ q)) }
    go false h = record { cluster = c; attribute = a; minimum = m; maximum = x; change = d; time = omega arith; value = omega arith; quiet = λ q. (refl, refl) }

-- and nothing changes where it was so
quieted_same : (e : Entry) → (e.marked ≡ false → (e.last_time ≡ 0) × (e.last_value ≡ pos 0)) → quieted e ≡ e
quieted_same e h = go e.marked refl
  where
    go : (b : Bool) → e.marked ≡ b → cond b e (fresh e.key e.config) ≡ e
    go true q = refl
    go false q = λ i. record { key = e.key; config = e.config; marked = sym q i; last_time = sym (h q).0 i; last_value = sym (h q).1 i }

-- as in a slot in form
pub slot_quiet : (ns : List ℕ) → is_slot ns ≡ true → quieted (entry_of ns) ≡ entry_of ns
unfolding entry_of
slot_quiet ns p = quieted_same (entry_of ns) (still (get_or ns 6 0) (get_or ns 7 0) (get_or ns 8 0) (flag_form ns p))
