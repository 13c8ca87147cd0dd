-- The table's slots and count: what each method writes is what the definition gives. Assumes nothing.
use Rattle.std.specs.Prelude.{Err, None, Ok, Some, cond}
use mathlib.Core.Path.{◌≡◌, refl, sym, ap, ◌∙◌}
use mathlib.Core.Bool.{Bool, true, false}
use mathlib.Core.List.{List, [], ◌∷◌, ◌++◌, map}
use Prim.Native.Nat.{ℕ, ◌+◌, ◌≤◌, ◌<◌}
use native.Mathlib.Omega.{arith}
use native.Mathlib.Numerals.{add-one}
use lib.ListN.{length, get_or, set, take, drop, length-take, length-map, drop_of_length-le}
use lib.Dec.{ltb}
use lib.Seq.{get_or-take, take-set-lt, take-take, take-suc-set}
use lib.IntN.{ℤ}
use borrow.Author.Tests.{lt-ltb, le-ltb, ltb-false, ltb-true}
use Rattle.frame.specs.declared.answer.Refusal.TheVariants.{NotATable}
use Rattle.reporting.specs.declared.entry.Key.{Key}
use Rattle.reporting.specs.declared.entry.ReportingConfig.{ReportingConfig}
use Rattle.reporting.specs.declared.entry.Entry.{Entry}
use Rattle.reporting.specs.declared.table.ReportingTable.{ReportingTable}
use Rattle.reporting.specs.Entries.{matches, fresh, replaced, find_l, lookup_l, update_l, clear_l, mark_e, mark_l}
use Rattle.reporting.specs.Due.{due_e, due_o, due_l}
use Rattle.reporting.specs.Table.{capacity, live, table_of, holding, change_told, report_told, setting_told, length_told, ReportTold, LengthTold, bad, handed_back, done_t, configure_t, clear_t, mark_t, ask_t, setting_o, configuration_t, length_t}
use Rattle.frame.specs.Answer.{refusal_number}
use Rattle.frame.specs.declared.answer.Refusal.{Refusal}
use Rattle.frame.proofs.Codes.{refusal_same, refusal_nonzero}
use Rattle.reporting.proofs.Places.{find_le, find_here, find_next, lookup_at, lookup_none, update_at, update_none, clear_none, clear_place}

-- what owning an array of structs tells of its list, where `search needs` stops at arrays of numbers
pub length_mapped : {X Y : Type 0} (f : X → Y) (l : List X) (n : ℕ) → length (map f l) ≡ n → length l ≡ n
length_mapped f l n p = sym (length-map l f) ∙ p

pub is-table : (t : ReportingTable) → t.count ≤ capacity → table_of t ≡ holding (live t)
is-table t h = rw (le-ltb capacity t.count h)

done_is : (u : ReportingTable) (l : List Entry) → live u ≡ l → u.count ≤ capacity → handed_back (record { answer = (Ok true); table = u }) ≡ done_t l
done_is u l e h = ap (λ x. record { told = change_told (Ok true); table = x }) (is-table u h ∙ ap holding e)

-- what is no table is refused, and handed back
module _ (t : ReportingTable) (h : capacity < t.count) where
  pub configure_bad : (k : Key) (g : ReportingConfig) → handed_back (record { answer = Err NotATable; table = t }) ≡ configure_t capacity k g (table_of t)
  configure_bad k g = rw (lt-ltb capacity t.count h)

  pub clear_bad : (k : Key) → handed_back (record { answer = Err NotATable; table = t }) ≡ clear_t k (table_of t)
  clear_bad k = rw (lt-ltb capacity t.count h)

  pub mark_bad : (k : Key) (now : ℕ) (v : ℤ) → handed_back (record { answer = Err NotATable; table = t }) ≡ mark_t k now v (table_of t)
  mark_bad k now v = rw (lt-ltb capacity t.count h)

  pub ask_bad : (k : Key) (now : ℕ) (v : ℤ) → report_told (Err NotATable) ≡ ask_t k now v (table_of t)
  ask_bad k now v = rw (lt-ltb capacity t.count h)

  pub setting_bad : (k : Key) → setting_told (Err NotATable) ≡ configuration_t k (table_of t)
  setting_bad k = rw (lt-ltb capacity t.count h)

  pub length_bad : length_told (Err NotATable) ≡ length_t (table_of t)
  length_bad = rw (lt-ltb capacity t.count h)

module _ (t : ReportingTable) (slots : length t.entries ≡ capacity) (small : t.count ≤ capacity) where
  pub live_length : length (live t) ≡ t.count
  live_length = length-take t.count t.entries ∙ omega arith

  pub length_is : length_told (Ok t.count) ≡ length_t (table_of t)
  length_is = ap (λ n. length_told (Ok n)) (sym live_length) ∙ sym (ap length_t (is-table t small))

  -- what `len` gave back, so that the other methods may ask it
  pub length_back : (n : ℕ) → length_told (Ok n) ≡ length_t (table_of t) → n ≡ t.count
  length_back n e = ap (λ (x : LengthTold). x.length) (e ∙ sym length_is)

  -- The scan for the key k has come to i: it is past the last entry, it hits, or it goes on.
  pub scan_end : (k : Key) (i : ℕ) → i ≤ t.count → t.count ≤ i → find_l k (live t) ≡ i + find_l k (drop i (live t)) → t.count ≡ find_l k (live t)
  scan_end k i h h' e =
      let z : find_l k (drop i (live t)) ≡ 0 = ap (find_l k) (drop_of_length-le (live t) {i = i} (omega (arith, live_length))) in
      omega (arith, z)

  pub scan_hit : (k : Key) (i : ℕ) (d : Entry) → i < t.count → matches k (get_or t.entries i d) ≡ true
      → find_l k (live t) ≡ i + find_l k (drop i (live t)) → i ≡ find_l k (live t)
  scan_hit k i d h m e =
      let q : get_or (live t) i d ≡ get_or t.entries i d = get_or-take t.count t.entries i d (omega arith) in
      omega (arith, find_here k (live t) i d (omega (arith, live_length)) (ap (matches k) q ∙ m))

  pub scan_miss : (k : Key) (i : ℕ) (d : Entry) → i < t.count → matches k (get_or t.entries i d) ≡ false
      → find_l k (live t) ≡ i + find_l k (drop i (live t)) → find_l k (live t) ≡ (i + 1) + find_l k (drop (i + 1) (live t))
  scan_miss k i d h m e =
      let q : get_or (live t) i d ≡ get_or t.entries i d = get_or-take t.count t.entries i d (omega arith) in
      rw (add-one i) (omega (arith, find_next k (live t) i d (omega (arith, live_length)) (ap (matches k) q ∙ m)))

-- in a table, the scan for the key k came to `at`
pub record Found (t : ReportingTable) (k : Key) (at : ℕ) : Type 0 where
  pub slots : length t.entries ≡ capacity
  pub small : t.count ≤ capacity
  pub place : at ≡ find_l k (live t)

-- What each method then writes is what the list operation gives.
module _ {t : ReportingTable} {k : Key} {at : ℕ} (found : Found t k at) where
  small : t.count ≤ capacity
  small = found.small

  place : at ≡ find_l k (live t)
  place = found.place

  many : length (live t) ≡ t.count
  many = live_length t found.slots small

  absent : t.count ≤ at → length (live t) ≤ find_l k (live t)
  absent h = omega (arith, many)

  present : at < t.count → find_l k (live t) < length (live t)
  present h = omega (arith, many)

  here : table_of t ≡ holding (live t)
  here = is-table t small

  pub clear_absent : t.count ≤ at → handed_back (record { answer = (Ok true); table = t }) ≡ clear_t k (table_of t)
  clear_absent h =
      done_is t (live t) refl small ∙ ap done_t (sym (clear_none k (live t) (absent h))) ∙ sym (ap (clear_t k) here)

  pub mark_absent : (now : ℕ) (v : ℤ) → t.count ≤ at → handed_back (record { answer = (Ok true); table = t }) ≡ mark_t k now v (table_of t)
  mark_absent now v h =
      done_is t (live t) refl small ∙ ap done_t (sym (update_none k (mark_e now v) (live t) (absent h))) ∙ sym (ap (mark_t k now v) here)

  -- the entry that the scan found is read, and written
  read_is : (d : Entry) → at < t.count → get_or t.entries at d ≡ get_or (live t) (find_l k (live t)) d
  read_is d h = sym (get_or-take t.count t.entries at d (omega arith)) ∙ ap (λ i. get_or (live t) i d) place

  found_is : (d : Entry) → at < t.count → lookup_l k (live t) ≡ Some (get_or t.entries at d)
  found_is d h = lookup_at k (live t) d (present h) ∙ ap Some (sym (read_is d h))

  written : (v : Entry) → at < t.count → take t.count (set t.entries at v) ≡ set (live t) (find_l k (live t)) v
  written v h = take-set-lt t.count t.entries at v h ∙ ap (λ i. set (live t) i v) place

  update_is : (f : Entry → Entry) (d v : Entry) → at < t.count → v ≡ f (get_or t.entries at d) → take t.count (set t.entries at v) ≡ update_l k f (live t)
  update_is f d v h e = written v h ∙ ap (set (live t) (find_l k (live t))) (e ∙ ap f (read_is d h)) ∙ sym (update_at k f (live t) d)

  -- the last entry goes into the hole
  pub clear_is : (last : ℕ) (d : Entry) → at < t.count → last + 1 ≡ t.count
      → handed_back (record { answer = (Ok true); table = record { entries = set t.entries at (get_or t.entries last d); count = last } }) ≡ clear_t k (table_of t)
  clear_is last d h e =
      done_is (record { entries = set t.entries at v; count = last }) (clear_l k (live t)) eq (omega arith)
      ∙ sym (ap (clear_t k) here)
    where
      v : Entry
      v = get_or t.entries last d

      same_last : get_or (live t) last d ≡ v
      same_last = get_or-take t.count t.entries last d (omega arith)

      eq : take last (set t.entries at v) ≡ clear_l k (live t)
      eq =
          sym (take-take last t.count (set t.entries at v) (omega arith)) ∙ ap (take last) (written v h)
          ∙ sym (clear_place k (live t) last d (present h) (e ∙ sym many) ∙ ap (λ x. take last (set (live t) (find_l k (live t)) x)) same_last)

  -- one entry more
  append_is : (v : Entry) → at ≡ t.count → t.count < capacity → take (t.count + 1) (set t.entries at v) ≡ live t ++ (v ∷ [])
  append_is v h r = let n = found.slots in rw (h, add-one) (take-suc-set t.entries t.count v (omega arith))

  -- the tests of configure_l and accepts_l
  test_found : at < t.count → ltb (find_l k (live t)) (length (live t)) ≡ true
  test_found h = lt-ltb _ _ (present h)

  test_not_found : t.count ≤ at → ltb (find_l k (live t)) (length (live t)) ≡ false
  test_not_found h = le-ltb _ _ (absent h)

  test_room : t.count < capacity → ltb (length (live t)) capacity ≡ true
  test_room h = lt-ltb (length (live t)) capacity (omega (arith, many))

  test_full : capacity ≤ t.count → ltb (length (live t)) capacity ≡ false
  test_full h = le-ltb (length (live t)) capacity (omega (arith, many))

  pub configure_full : (g : ReportingConfig) → capacity ≤ at → handed_back (record { answer = (Ok false); table = t }) ≡ configure_t capacity k g (table_of t)
  configure_full g h =
      let le = find_le k (live t) in
      let full : capacity ≤ t.count = omega (arith, many) in
      ap (λ x. record { told = change_told (Ok false); table = x }) here
      ∙ sym (ap (configure_t capacity k g) here ∙ simp (test_not_found (omega arith), test_full full))

  pub configure_old : (g : ReportingConfig) (d v : Entry) → v ≡ fresh k g → at < t.count
      → handed_back (record { answer = (Ok true); table = record { entries = set t.entries at v; count = t.count } }) ≡ configure_t capacity k g (table_of t)
  configure_old g d v e h =
      done_is (record { entries = set t.entries at v; count = t.count }) (update_l k (replaced k g) (live t)) (update_is (replaced k g) d v h e) small
      ∙ sym (ap (configure_t capacity k g) here ∙ simp (test_found h))

  pub configure_new : (g : ReportingConfig) (v : Entry) → v ≡ fresh k g → t.count ≤ at → at < capacity
      → handed_back (record { answer = (Ok true); table = record { entries = set t.entries at v; count = t.count + 1 } }) ≡ configure_t capacity k g (table_of t)
  configure_new g v e h r =
      let le = find_le k (live t) in
      let end : at ≡ t.count = omega (arith, many) in
      done_is (record { entries = set t.entries at v; count = t.count + 1 }) (live t ++ (v ∷ [])) (append_is v end (omega arith)) (omega arith)
      ∙ sym (ap (configure_t capacity k g) here ∙ simp (test_not_found h, test_room (omega arith), ← e))

  -- A report: the entry's mark, and whether one is due. A signed argument reaches a callee by its bits, so v' is v read back.
  pub mark_is : (d e : Entry) (now : ℕ) (v v' : ℤ) → v' ≡ v → e ≡ mark_e now v' (get_or t.entries at d) → at < t.count
      → handed_back (record { answer = (Ok true); table = record { entries = set t.entries at e; count = t.count } }) ≡ mark_t k now v (table_of t)
  mark_is d e now v v' q p h =
      done_is (record { entries = set t.entries at e; count = t.count }) (mark_l k now v (live t))
      (update_is (mark_e now v) d e h (p ∙ ap (λ z. mark_e now z (get_or t.entries at d)) q)) small
      ∙ sym (ap (mark_t k now v) here)

  ask_here : (now : ℕ) (v : ℤ) (b : Bool) → due_l k now v (live t) ≡ b → ◌≡◌ {A = ReportTold} (record { number = 0; due = b }) (ask_t k now v (table_of t))
  ask_here now v b e = ap (λ (x : Bool). record { number = 0; due = x }) (sym e) ∙ sym (ap (ask_t k now v) here)

  -- the method's answer b is the entry's
  pub ask_is : (d : Entry) (now : ℕ) (v v' : ℤ) (b : Bool) → v' ≡ v → at < t.count → b ≡ due_e (get_or t.entries at d) now v'
      → ◌≡◌ {A = ReportTold} (record { number = 0; due = b }) (ask_t k now v (table_of t))
  ask_is d now v v' b q h e = ask_here now v b (ap (λ m. due_o m now v) (found_is d h) ∙ sym (e ∙ ap (due_e (get_or t.entries at d) now) q))

  pub ask_absent : (now : ℕ) (v : ℤ) → t.count ≤ at → report_told (Ok false) ≡ ask_t k now v (table_of t)
  ask_absent now v h = ask_here now v false (ap (λ m. due_o m now v) (lookup_none k (live t) (absent h)))

  pub setting_is : (d : Entry) → at < t.count → setting_told (Ok (Some (get_or t.entries at d).config)) ≡ configuration_t k (table_of t)
  setting_is d h = sym (ap (configuration_t k) here ∙ ap setting_o (found_is d h))

  pub setting_absent : t.count ≤ at → setting_told (Ok None) ≡ configuration_t k (table_of t)
  setting_absent h = sym (ap (configuration_t k) here ∙ ap setting_o (lookup_none k (live t) (absent h)))

-- what `len` says of a table, and of what is none
pub len_small : (t : ReportingTable) (n : ℕ) → length_told (Ok n) ≡ length_t (table_of t) → t.count ≤ capacity
len_small t n = go (ltb capacity t.count) refl
  where
    go : (b : Bool) → ltb capacity t.count ≡ b → length_told (Ok n) ≡ length_t (cond b (bad t) (holding (live t))) → t.count ≤ capacity
    go true q e = let z : ◌≡◌ {A = ℕ} 0 8 = ap (λ (x : LengthTold). x.number) e in absurd (omega arith)
    go false q e = ltb-false capacity t.count q

pub len_refused : (t : ReportingTable) (why : Refusal) → length_told (Err why) ≡ length_t (table_of t) → (capacity < t.count) × (why ≡ NotATable)
len_refused t why = go (ltb capacity t.count) refl
  where
    go : (b : Bool) → ltb capacity t.count ≡ b → length_told (Err why) ≡ length_t (cond b (bad t) (holding (live t))) → (capacity < t.count) × (why ≡ NotATable)
    go true q e = (ltb-true capacity t.count q, refusal_same why NotATable (ap (λ (x : LengthTold). x.number) e))
    go false q e = let z : refusal_number why ≡ 0 = ap (λ (x : LengthTold). x.number) e in absurd (omega (arith, refusal_nonzero why))
