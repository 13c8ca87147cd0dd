-- What the operations on a table's bytes find, and what they then say. Assumes nothing.
use Rattle.std.specs.Prelude.{Err, None, Ok, Option, Result, Some}
use Prim.Native.Nat.{ℕ, zero, suc, ◌+◌, ◌*◌, ◌^◌, ◌≤◌, ◌<◌}
use mathlib.Core.Path.{◌≡◌, refl, ap, sym, ◌∙◌}
use mathlib.Core.Bool.{Bool, true, false, cond, ◌&&◌, ◌||◌, and-true, and-false}
use mathlib.Core.List.{List, [], ◌∷◌, ◌++◌, map}
use native.Mathlib.Omega.{arith}
use lib.ListN.{length, get_or, take, drop, set, length-set}
use lib.Seq.{sets, drop-drop, take_all, take-suc, length-take-le}
use lib.Dec.{ltb, eqb}
use lib.IntN.{ℤ}
use lib.Signed.{mag}
use borrow.Author.Tests.{eq-eqb, ne_eqb, lt-ltb, le-ltb}
use Rattle.types.specs.Number.{AllBytes, zeros, unsigned_at}
use Rattle.frame.specs.declared.answer.Refusal.TheVariants.{NotATable}
use Rattle.reporting.specs.declared.entry.Key.{Key}
use Rattle.reporting.specs.declared.entry.ReportingConfig.{ReportingConfig}
use Rattle.reporting.specs.declared.entry.Entry.{Entry}
use Rattle.frame.specs.declared.answer.Refusal.{Refusal}
use Rattle.reporting.specs.Entries.{matches, find_l, lookup_l, update_l, fresh, replaced, accepts_l, configure_l, clear_l, mark_e, mark_l}
use Rattle.reporting.specs.Due.{due_e, due_o, due_l}
use Rattle.reporting.specs.Table.{capacity, holding, ReportTold, report_told, setting_told, setting_o, configuration_t}
use Rattle.reporting.specs.Carried.{widths, total, laid, numbers_in, rows_in, numbers_of, entry_of, count_in, slots_in, table_in, table_bytes, is_table, table_read, read_t, written, slot_bytes}
use Rattle.reporting.specs.Claims.RoundTrip.{Clean}
use Rattle.reporting.specs.Lent.{on_lent, ask_lent, configuration_lent, mark_lent, clear_lent, ChangeLeft, left_as, configure_lent}
use Rattle.reporting.specs.Inside.{ChangeKept, kept_as, configure_in}
use Rattle.reporting.proofs.Places.{find_le, lookup_at, lookup_none, update_at, update_none, clear_none, clear_place}
use Rattle.reporting.proofs.CarriageCode.{entry_at}
use Rattle.reporting.proofs.CarriageTable.{the_conditions, table_count, table_clean, bytes_back, read_written, read_is}
use Rattle.reporting.proofs.CarriageLoops.{known_count, slots_from, slots_start, slots_more, slots_end}
use Rattle.reporting.proofs.Kept.{Kept, configure_keeps, clear_keeps, mark_keeps}
use Rattle.reporting.proofs.Patches.{slot_over, slot_added, slot_gone}

-- ---- one slot

-- the entry of the i-th slot
abbrev pub slot_entry : List ℕ → ℕ → Entry
slot_entry bs i = entry_of (numbers_in widths (drop (1 + slot_bytes * i) bs))

-- a slot is the key's by its first two numbers, c and a
module _ (bs : List ℕ) (at : ℕ) (k : Key) (c a : ℕ) (ec : c ≡ unsigned_at bs at 2) (ea : a ≡ unsigned_at bs (at + 2) 2) where
  key-at : matches k (entry_of (numbers_in widths (drop at bs))) ≡ (eqb c k.cluster.0 && eqb a k.attribute.0)
  key-at = ap (matches k) (entry_at bs at) ∙ (λ i. eqb (sym ec i) k.cluster.0 && eqb (sym ea i) k.attribute.0)

  pub key_first : a ≡ k.attribute.0 → eqb c k.cluster.0 ≡ matches k (entry_of (numbers_in widths (drop at bs)))
  key_first h = sym (key-at ∙ ap (λ (b : Bool). eqb c k.cluster.0 && b) (eq-eqb a k.attribute.0 h) ∙ and-true (eqb c k.cluster.0))

  pub key_not : (a ≡ k.attribute.0 → ⊥) → eqb a k.attribute.0 ≡ matches k (entry_of (numbers_in widths (drop at bs)))
  key_not h = ne_eqb a k.attribute.0 h ∙ sym (key-at ∙ ap (λ (b : Bool). eqb c k.cluster.0 && b) (ne_eqb a k.attribute.0 h) ∙ and-false (eqb c k.cluster.0))

nth_row : (n : ℕ) (bs : List ℕ) (i : ℕ) (d : Entry) → i < n → get_or (map entry_of (rows_in widths n bs)) i d ≡ entry_of (numbers_in widths (drop (slot_bytes * i) bs))
unfolding rows_in
nth_row zero bs i d h = absurd (omega arith)
nth_row (suc n) bs zero d h = refl
nth_row (suc n) bs (suc i) d h =
    let e : total widths + slot_bytes * i ≡ slot_bytes * suc i = omega arith in
    nth_row n (drop (total widths) bs) i d (omega arith)
    ∙ ap (λ (l : List ℕ). entry_of (numbers_in widths l)) (drop-drop (slot_bytes * i) (total widths) bs ∙ ap (λ (p : ℕ). drop p bs) e)

-- the i-th entry of a table is that of the i-th slot
pub nth_entry : (bs : List ℕ) (i : ℕ) (d : Entry) → i < count_in bs → get_or (table_in bs) i d ≡ slot_entry bs i
unfolding table_in slots_in
nth_entry bs i d h = nth_row (count_in bs) (drop 1 bs) i d h ∙ ap (λ (l : List ℕ). entry_of (numbers_in widths l)) (drop-drop (slot_bytes * i) 1 bs)

-- ---- the scan

-- the scan has passed i slots, none of them the key's
pub record Passed (k : Key) (bs : List ℕ) (i : ℕ) : Type 0 where
  pub within : i ≤ count_in bs
  pub rest : find_l k (table_in bs) ≡ i + find_l k (map entry_of (slots_from bs (count_in bs) i))

pub passed_none : (k : Key) (bs : List ℕ) → Passed k bs 0
unfolding table_in slots_in
passed_none k bs =
    let e = ap (λ (r : List (List ℕ)). find_l k (map entry_of r)) (slots_start bs (count_in bs)) in
    record { within = omega arith; rest = omega (arith, e) }

module _ (k : Key) (bs : List ℕ) (i : ℕ) (s : Passed k bs i) where
  pub passed_all : count_in bs ≤ i → count_in bs ≡ find_l k (table_in bs)
  passed_all h = omega (arith, s.within, s.rest, ap (λ (r : List (List ℕ)). find_l k (map entry_of r)) (slots_end bs (count_in bs) i h))

  next : (b : Bool) → i < count_in bs → matches k (slot_entry bs i) ≡ b → find_l k (map entry_of (slots_from bs (count_in bs) i)) ≡ cond b 0 (suc (find_l k (map entry_of (slots_from bs (count_in bs) (i + 1)))))
  next b h m =
      ap (λ (r : List (List ℕ)). find_l k (map entry_of r)) (slots_more bs (count_in bs) i h)
      ∙ ap (λ (t : Bool). cond t 0 (suc (find_l k (map entry_of (slots_from bs (count_in bs) (i + 1)))))) m

  pub passed_here : i < count_in bs → matches k (slot_entry bs i) ≡ true → i ≡ find_l k (table_in bs)
  passed_here h m = omega (arith, s.rest, next true h m)

  pub passed_more : i < count_in bs → matches k (slot_entry bs i) ≡ false → Passed k bs (i + 1)
  passed_more h m = record { within = omega arith; rest = omega (arith, s.rest, next false h m) }

-- ---- what is said

module _ (bs : List ℕ) where
  refused_so : {R : Type 0} (refusal : R) (rest : List Entry → R) → is_table capacity bs ≡ false → refusal ≡ on_lent bs refusal rest
  unfolding on_lent
  refused_so refusal rest h = ap (λ (b : Bool). cond b (rest (table_in bs)) refusal) (sym h)

  known_so : {R : Type 0} (refusal : R) (rest : List Entry → R) → is_table capacity bs ≡ true → rest (table_in bs) ≡ on_lent bs refusal rest
  unfolding on_lent
  known_so refusal rest h = ap (λ (b : Bool). cond b (rest (table_in bs)) refusal) (sym h)

  pub ask_refused : (k : Key) (now : ℕ) (v : ℤ) → is_table capacity bs ≡ false → report_told (Err NotATable) ≡ ask_lent k now v bs
  unfolding ask_lent
  ask_refused k now v h = refused_so _ _ h

  pub setting_refused : (k : Key) → is_table capacity bs ≡ false → setting_told (Err NotATable) ≡ configuration_lent k bs
  unfolding configuration_lent
  setting_refused k h = refused_so _ _ h

  pub mark_refused : (k : Key) (now : ℕ) (v : ℤ) → is_table capacity bs ≡ false → written false bs ≡ mark_lent k now v bs
  unfolding mark_lent
  mark_refused k now v h = refused_so _ _ h

  pub clear_refused : (k : Key) → is_table capacity bs ≡ false → written false bs ≡ clear_lent k bs
  unfolding clear_lent
  clear_refused k h = refused_so _ _ h

  pub configure_refused : (k : Key) (g : ReportingConfig) → is_table capacity bs ≡ false → left_as (Err NotATable) bs ≡ configure_lent k g bs
  unfolding configure_lent
  configure_refused k g h = refused_so _ _ h

-- what configuring says, and the bytes of the entries that it leaves
abbrev changed : Key → ReportingConfig → List Entry → ChangeLeft
changed k g l = left_as (Ok (accepts_l capacity k l)) (table_bytes capacity (configure_l capacity k g l))

-- in bytes that are a table, the scan for the key k came to `at`
pub record FoundSlot (bs : List ℕ) (k : Key) (at : ℕ) : Type 0 where
  pub known : is_table capacity bs ≡ true
  pub place : at ≡ find_l k (table_in bs)

module _ {bs : List ℕ} {k : Key} {at : ℕ} (found : FoundSlot bs k at) where
  pub absent : count_in bs ≤ at → length (table_in bs) ≤ find_l k (table_in bs)
  absent h = omega (arith, table_count bs, found.place)

  pub present : at < count_in bs → find_l k (table_in bs) < length (table_in bs)
  present h = omega (arith, table_count bs, found.place)

  pub found_entry : (d : Entry) → at < count_in bs → get_or (table_in bs) (find_l k (table_in bs)) d ≡ slot_entry bs at
  found_entry d h = ap (λ (i : ℕ). get_or (table_in bs) i d) (sym found.place) ∙ nth_entry bs at d h

  found_is : at < count_in bs → lookup_l k (table_in bs) ≡ Some (slot_entry bs at)
  found_is h = lookup_at k (table_in bs) (slot_entry bs at) (present h) ∙ ap Some (found_entry (slot_entry bs at) h)

  pub due_absent : (now : ℕ) (v : ℤ) → count_in bs ≤ at → false ≡ due_l k now v (table_in bs)
  due_absent now v h = sym (ap (λ m. due_o m now v) (lookup_none k (table_in bs) (absent h)))

  -- A signed argument reaches a callee by its bits, so v' is v read back.
  pub due_is : (e : Entry) (now : ℕ) (v v' : ℤ) (b : Bool) → e ≡ slot_entry bs at → v' ≡ v → at < count_in bs → b ≡ due_e e now v' → b ≡ due_l k now v (table_in bs)
  due_is e now v v' b ee ev h eb = eb ∙ (λ i. due_e (ee i) now (ev i)) ∙ sym (ap (λ m. due_o m now v) (found_is h))

  pub setting_absent : count_in bs ≤ at → setting_told (Ok None) ≡ configuration_t k (holding (table_in bs))
  setting_absent h = sym (ap setting_o (lookup_none k (table_in bs) (absent h)))

  pub setting_is : (e : Entry) → e ≡ slot_entry bs at → at < count_in bs → setting_told (Ok (Some e.config)) ≡ configuration_t k (holding (table_in bs))
  setting_is e ee h = ap (λ (x : Entry). setting_told (Ok (Some x.config))) ee ∙ sym (ap setting_o (found_is h))

  -- ---- what is left

  module _ (h : AllBytes bs) where
    -- the bytes as they are, and with the found slot written over
    kept : bs ≡ table_bytes capacity (table_in bs)
    kept = sym (bytes_back capacity bs h found.known)

    patched : (after : List ℕ) (f : Entry → Entry) (e : Entry) → e ≡ f (slot_entry bs at) → at < count_in bs → after ≡ sets bs (1 + slot_bytes * at) (laid widths (numbers_of e))
        → after ≡ table_bytes capacity (update_l k f (table_in bs))
    patched after f e ee p w =
        let d : Entry = slot_entry bs at in
        let u : set (table_in bs) at e ≡ update_l k f (table_in bs) = (λ i. set (table_in bs) (found.place i) ((ee ∙ ap f (sym (found_entry d p))) i)) ∙ sym (update_at k f (table_in bs) d) in
        w
        ∙ ap (λ (l : List ℕ). sets l (1 + slot_bytes * at) (laid widths (numbers_of e))) kept
        ∙ slot_over capacity (table_in bs) at e (omega (arith, table_count bs))
        ∙ ap (table_bytes capacity) u

    pub mark_absent : (now : ℕ) (v : ℤ) → count_in bs ≤ at → bs ≡ table_bytes capacity (mark_l k now v (table_in bs))
    mark_absent now v p = kept ∙ ap (table_bytes capacity) (sym (update_none k (mark_e now v) (table_in bs) (absent p)))

    pub mark_is : (after : List ℕ) (e : Entry) (now : ℕ) (v v' : ℤ) → v' ≡ v → e ≡ mark_e now v' (slot_entry bs at) → at < count_in bs → after ≡ sets bs (1 + slot_bytes * at) (laid widths (numbers_of e))
        → after ≡ table_bytes capacity (mark_l k now v (table_in bs))
    mark_is after e now v v' ev ee p w = patched after (mark_e now v) e (ee ∙ ap (λ z. mark_e now z (slot_entry bs at)) ev) p w

    -- the answer and the entries by the tests of accepts_l and configure_l
    as_configured : (g : ReportingConfig) (a b : Bool) → ltb (find_l k (table_in bs)) (length (table_in bs)) ≡ a → ltb (length (table_in bs)) capacity ≡ b
        → left_as (Ok (a || b)) (table_bytes capacity (cond a (update_l k (replaced k g) (table_in bs)) (cond b (table_in bs ++ (fresh k g ∷ [])) (table_in bs)))) ≡ changed k g (table_in bs)
    as_configured g a b ea eb =
        sym
        (λ i.
        left_as (Ok (ea i || eb i))
        (table_bytes capacity (cond (ea i) (update_l k (replaced k g) (table_in bs)) (cond (eb i) (table_in bs ++ (fresh k g ∷ [])) (table_in bs)))))

    pub configure_full : (g : ReportingConfig) → capacity ≤ at → left_as (Ok false) bs ≡ changed k g (table_in bs)
    configure_full g p =
        let n = table_count bs in
        let c = known_count bs found.known in
        let f = find_le k (table_in bs) in
        ap (left_as (Ok false)) kept
        ∙ as_configured g false false (le-ltb (find_l k (table_in bs)) (length (table_in bs)) (omega (arith, n, c, f, found.place))) (le-ltb (length (table_in bs)) capacity (omega (arith, n, c, f, found.place)))

    pub configure_old : (g : ReportingConfig) (after : List ℕ) (e : Entry) → e ≡ fresh k g → at < count_in bs → after ≡ sets bs (1 + slot_bytes * at) (laid widths (numbers_of e))
        → left_as (Ok true) after ≡ changed k g (table_in bs)
    configure_old g after e ee p w =
        ap (left_as (Ok true)) (patched after (replaced k g) e ee p w)
        ∙ as_configured g true (ltb (length (table_in bs)) capacity) (lt-ltb _ _ (present p)) refl

    pub configure_new : (g : ReportingConfig) (after : List ℕ) (e : Entry) → e ≡ fresh k g → count_in bs ≤ at → at < capacity → after ≡ sets bs (1 + slot_bytes * at) (laid widths (numbers_of e))
        → left_as (Ok true) (set after 0 (count_in bs + 1)) ≡ changed k g (table_in bs)
    configure_new g after e ee p r w =
        let n = table_count bs in
        let f = find_le k (table_in bs) in
        let i : at ≡ length (table_in bs) = omega (arith, n, f, found.place) in
        let c : count_in bs + 1 ≡ suc (length (table_in bs)) = omega (arith, n) in
        let b : List ℕ = laid widths (numbers_of (fresh k g)) in
        ap (λ (x : List ℕ). left_as (Ok true) (set x 0 (count_in bs + 1))) (w ∙ (λ j. sets (kept j) (1 + slot_bytes * i j) (laid widths (numbers_of (ee j)))))
        ∙ ap (λ (m : ℕ). left_as (Ok true) (set (sets (table_bytes capacity (table_in bs)) (1 + slot_bytes * length (table_in bs)) b) 0 m)) c
        ∙ ap (left_as (Ok true)) (slot_added capacity (table_in bs) (fresh k g) (omega arith))
        ∙ as_configured g false true (le-ltb _ _ (absent p)) (lt-ltb (length (table_in bs)) capacity (omega arith))

    pub clear_absent : count_in bs ≤ at → bs ≡ table_bytes capacity (clear_l k (table_in bs))
    clear_absent p = kept ∙ ap (table_bytes capacity) (sym (clear_none k (table_in bs) (absent p)))

    -- the last entry stands in the hole, and zeros where it stood
    pub clear_moved : (last : ℕ) (e : Entry) (filled after : List ℕ) → at < count_in bs → last + 1 ≡ count_in bs → e ≡ slot_entry bs last
        → filled ≡ sets bs (1 + slot_bytes * at) (laid widths (numbers_of e)) → after ≡ sets filled (1 + slot_bytes * last) (zeros slot_bytes) → set after 0 last ≡ table_bytes capacity (clear_l k (table_in bs))
    clear_moved last e filled after p q ee ef ea =
        let l : List Entry = table_in bs in
        let m : List Entry = set l at e in
        let d : Entry = slot_entry bs last in
        let n = table_count bs in
        let k' = known_count bs found.known in
        let long : length m ≡ last + 1 = omega (arith, length-set l at e, n) in
        let short : length (take last m) ≡ last = length-take-le last m (omega arith) in
        let cut : m ≡ take last m ++ (get_or m last d ∷ []) = sym (take_all (suc last) m (omega arith)) ∙ take-suc m last d (omega arith) in
        let gone : take last m ≡ clear_l k l = (λ i. take last (set l (found.place i) ((ee ∙ sym (nth_entry bs last d (omega arith))) i))) ∙ sym (clear_place k l last d (present p) (omega (arith, n))) in
        ap (λ (x : List ℕ). set x 0 last) ea
        ∙ ap (λ (x : List ℕ). set (sets x (1 + slot_bytes * last) (zeros slot_bytes)) 0 last)
        (ef ∙ ap (λ (x : List ℕ). sets x (1 + slot_bytes * at) (laid widths (numbers_of e))) kept ∙ slot_over capacity l at e (omega (arith, n)) ∙ ap (table_bytes capacity) cut)
        ∙ ap (λ (j : ℕ). set (sets (table_bytes capacity (take last m ++ (get_or m last d ∷ []))) (1 + slot_bytes * j) (zeros slot_bytes)) 0 j) (sym short)
        ∙ slot_gone capacity (take last m) (get_or m last d) (omega arith)
        ∙ ap (table_bytes capacity) gone

-- ---- the table that is left

-- a fresh entry has one form where the key and the configuration are within their types
pub fresh_clean : (k : Key) (g : ReportingConfig) → k.cluster.0 < 2 ^ 16 → k.attribute.0 < 2 ^ 16 → g.min_interval < 2 ^ 16 → g.max_interval < 2 ^ 16 → g.reportable_change < 2 ^ 64
    → Clean (fresh k g)
fresh_clean k g c a m x d = record {
  cluster = c;
  attribute = a;
  minimum = m;
  maximum = x;
  change = d;
  time = omega arith;
  value = omega arith;
  quiet = λ q. (refl, refl);
}

module _ (bs : List ℕ) (h : AllBytes bs) (t : is_table capacity bs ≡ true) where
  fit : Kept capacity (table_in bs)
  fit = record { small = omega (arith, table_count bs, (the_conditions capacity bs t).count); clean = table_clean capacity bs h t }

  -- from the bytes to what a reader of them sees
  pub clear_seen : (k : Key) (after : List ℕ) → after ≡ table_bytes capacity (clear_l k (table_in bs)) → read_t capacity after ≡ table_read true (clear_l k (table_in bs))
  clear_seen k after e = let f = clear_keeps capacity k (table_in bs) fit in ap (read_t capacity) e ∙ read_written capacity (clear_l k (table_in bs)) f.small f.clean

  pub mark_seen : (k : Key) (now : ℕ) (v : ℤ) (after : List ℕ) → now < 2 ^ 32 → mag v < 2 ^ 63 → after ≡ table_bytes capacity (mark_l k now v (table_in bs)) → read_t capacity after ≡ table_read true (mark_l k now v (table_in bs))
  mark_seen k now v after n m e = let f = mark_keeps capacity k now v (table_in bs) n m fit in ap (read_t capacity) e ∙ read_written capacity (mark_l k now v (table_in bs)) f.small f.clean

  pub configure_seen : (k : Key) (g : ReportingConfig) (answer : Bool) (after : List ℕ) → Clean (fresh k g) → left_as (Ok answer) after ≡ changed k g (table_in bs) → kept_as answer after ≡ configure_in k g (table_in bs)
  unfolding configure_in
  configure_seen k g answer after c e =
      let f = configure_keeps capacity k g (table_in bs) c fit in
      λ i. record {
        told = (e i).told;
        table = (ap (λ (x : ChangeLeft). read_t capacity x.bytes) e ∙ read_written capacity (configure_l capacity k g (table_in bs)) f.small f.clean) i;
      }

-- and back: bytes in which a reader sees these entries
pub seen_bytes : (l : List Entry) (bs : List ℕ) → AllBytes bs → read_t capacity bs ≡ table_read true l → bs ≡ table_bytes capacity l
seen_bytes l bs h e = let r = read_is capacity bs l e in sym (bytes_back capacity bs h r.0) ∙ ap (table_bytes capacity) r.1

-- ---- the check, and then the function without it

module _ (bs : List ℕ) (t : is_table capacity bs ≡ true) where
  pub setting_known : (k : Key) (answer : Result (Option ReportingConfig) Refusal) → setting_told answer ≡ configuration_t k (holding (table_in bs)) → setting_told answer ≡ configuration_lent k bs
  unfolding configuration_lent
  setting_known k answer e = e ∙ known_so bs _ _ t

  pub ask_known : (k : Key) (now : ℕ) (v v' : ℤ) (b : Bool) → v' ≡ v → b ≡ due_l k now v' (table_in bs) → ◌≡◌ {A = ReportTold} (record { number = 0; due = b }) (ask_lent k now v bs)
  unfolding ask_lent
  ask_known k now v v' b ev e = ap (λ (x : Bool). record { number = 0; due = x }) (e ∙ ap (λ z. due_l k now z (table_in bs)) ev) ∙ known_so bs _ _ t

  pub mark_known : (k : Key) (now : ℕ) (v v' : ℤ) (after : List ℕ) → AllBytes after → v' ≡ v → read_t capacity after ≡ table_read true (mark_l k now v' (table_in bs)) → written true after ≡ mark_lent k now v bs
  unfolding mark_lent
  mark_known k now v v' after h ev e = ap (λ (l : List ℕ). written true l) (seen_bytes (mark_l k now v' (table_in bs)) after h e ∙ ap (λ z. table_bytes capacity (mark_l k now z (table_in bs))) ev) ∙ known_so bs _ _ t

  pub clear_known : (k : Key) (after : List ℕ) → AllBytes after → read_t capacity after ≡ table_read true (clear_l k (table_in bs)) → written true after ≡ clear_lent k bs
  unfolding clear_lent
  clear_known k after h e = ap (λ (l : List ℕ). written true l) (seen_bytes (clear_l k (table_in bs)) after h e) ∙ known_so bs _ _ t

  pub configure_known : (k : Key) (g : ReportingConfig) (answer : Bool) (after : List ℕ) → AllBytes after → kept_as answer after ≡ configure_in k g (table_in bs) → left_as (Ok answer) after ≡ configure_lent k g bs
  unfolding configure_lent configure_in
  configure_known k g answer after h e =
      let b = seen_bytes (configure_l capacity k g (table_in bs)) after h (ap (λ (x : ChangeKept). x.table) e) in
      (λ i. record { told = (e i).told; bytes = b i }) ∙ known_so bs _ (changed k g) t
