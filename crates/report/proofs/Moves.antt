-- One turn: what it leaves, and that it comes nearer to what it found due and did not write. Assumes nothing.
use Rattle.std.specs.Prelude.{None, Option, Some}
use mathlib.Core.Path.{◌≡◌, refl, sym, ap, ◌∙◌, subst}
use mathlib.Core.Bool.{Bool, true, false, cond, ◌&&◌, ◌||◌, true≢false, false≢true}
use mathlib.Core.List.{List, [], ◌∷◌, ◌++◌}
use Prim.Native.Nat.{ℕ, zero, suc, ◌+◌, ◌*◌, ◌<◌}
use native.Mathlib.Omega.{arith}
use lib.ListN.{length}
use lib.Dec.{leb, ltb}
use lib.IntN.{ℤ}
use borrow.Author.Tests.{leb-true, le-leb, ltb-true, lt-ltb}
use Rattle.types.specs.Number.{AllBytes}
use Rattle.types.proofs.Numbers.{unsigned_below}
use Rattle.frame.specs.declared.answer.Refusal.TheVariants.{ReplyTooLong, NotAStore, NotATable}
use Rattle.frame.specs.Answer.{Outcome, replied, refused}
use Rattle.frame.specs.Encoded.{encode_all}
use Rattle.store.specs.declared.lookup.Attribute.{Attribute}
use Rattle.store.specs.Contents.{cluster_of, count_of, attribute_at, attributes_from, attributes_of, reportable}
use Rattle.store.specs.Layout.{is_store, ascending}
use Rattle.reporting.specs.declared.entry.Entry.{Entry}
use Rattle.reporting.specs.Entries.{lookup_l}
use Rattle.reporting.specs.Due.{due_o, due_l}
use Rattle.reporting.specs.Table.{capacity}
use Rattle.reporting.specs.Carried.{table_in, is_table, table_bytes}
use Rattle.reporting.proofs.CarriageTable.{bytes_back}
use Rattle.report.specs.Report.{report_head}
use Rattle.report.specs.Round.{round, fitting, last_of}
use Rattle.report.specs.Turn.{Turn, After, id_of, key_of, value_in, is_due, record_in, due_of, one_frame, written_of, mark_each, after_turn, framed, sent, turn_of}
use Rattle.report.specs.Claims.Words.{names, Each, Row}
use Rattle.report.specs.Claims.Turns.{begins, found_in, frame_of, given_back, TurnsAreLists, FramesAreSent}
use Rattle.report.proofs.Lists.{and_true, not_empty, row_round, before, names_append, names_round, each_weaker, each_ok, each_at, each_first, row_keep, each_round, each_kept, last_before, fitting_some, fitting_splits}

-- ---- the answer and the three lists

module _ (form : ℕ) (u : Turn) (bs : List ℕ) where
  abbrev leaving : List Attribute → After
  leaving w = after_turn (table_bytes capacity (mark_each u.store u.now w (table_in bs))) (last_of id_of u.last w)

  -- a table's bytes are past 8
  pub opened : is_table capacity bs ≡ true
      → turn_of form u bs
      ≡ cond (is_store form u.store)
      (cond (leb (length (report_head u.sequence)) u.room) (sent u bs (due_of form u.store u.now (table_in bs)) (written_of form u (table_in bs))) (refused u.room ReplyTooLong (after_turn bs u.last)))
      (refused u.room NotAStore (after_turn bs u.last))
  unfolding turn_of
  opened t =
      ap (λ b. cond (is_store form u.store)
      (cond b
      (cond (leb (length (report_head u.sequence)) u.room) (sent u bs (due_of form u.store u.now (table_in bs)) (written_of form u (table_in bs))) (refused u.room ReplyTooLong (after_turn bs u.last)))
      (refused u.room NotATable (after_turn bs u.last)))
      (refused u.room NotAStore (after_turn bs u.last))) t

  module _ (own : bs ≡ table_bytes capacity (table_in bs)) where
    kept : after_turn bs u.last ≡ leaving []
    kept = ap (λ b. after_turn b u.last) own

    framed_leaves : (w : List Attribute) → (framed u bs w).state ≡ leaving w
    framed_leaves [] = kept
    framed_leaves (a ∷ more) = refl

    sent_leaves : (d : List Attribute) → (sent u bs d (fitting (one_frame u) (round id_of u.last d))).state ≡ leaving (fitting (one_frame u) (round id_of u.last d))
    sent_leaves [] = kept
    sent_leaves (a ∷ more) = framed_leaves (fitting (one_frame u) (round id_of u.last (a ∷ more)))

  pick : (a b : Bool) (x y z : Outcome After) (w : List Attribute) → x.state ≡ leaving w → y.state ≡ leaving [] → z.state ≡ leaving []
      → (cond a (cond b x y) z).state ≡ leaving (cond (a && b) w [])
  pick true true x y z w h k m = h
  pick true false x y z w h k m = k
  pick false b x y z w h k m = m

  pick_sent : (a b : Bool) (x y z : Outcome After) (w : List Attribute) (c : Attribute) (more : List Attribute) → cond (a && b) w [] ≡ c ∷ more
      → (w ≡ c ∷ more) × (cond a (cond b x y) z ≡ x)
  pick_sent true true x y z w c more h = (h, refl)
  pick_sent true false x y z w c more h = absurd (not_empty c more (sym h))
  pick_sent false b x y z w c more h = absurd (not_empty c more (sym h))

  sent_framed : (d w : List Attribute) (c : Attribute) (more : List Attribute) → w ≡ fitting (one_frame u) (round id_of u.last d) → w ≡ c ∷ more
      → sent u bs d w ≡ framed u bs (c ∷ more)
  sent_framed [] w c more h k = absurd (not_empty c more (sym k ∙ h))
  sent_framed (a ∷ d) w c more h k = ap (framed u bs) k

pub turn_leaves : TurnsAreLists
unfolding begins
turn_leaves form u bs h t =
    let own = sym (bytes_back capacity bs h t) in
    ap (λ (o : Outcome After). o.state) (opened form u bs t)
    ∙ pick form u bs (is_store form u.store) (leb (length (report_head u.sequence)) u.room)
    (sent u bs (due_of form u.store u.now (table_in bs)) (written_of form u (table_in bs)))
    (refused u.room ReplyTooLong (after_turn bs u.last))
    (refused u.room NotAStore (after_turn bs u.last))
    (written_of form u (table_in bs))
    (sent_leaves form u bs own (due_of form u.store u.now (table_in bs))) (kept form u bs own) (kept form u bs own)

pub frame_sent : FramesAreSent
unfolding begins
frame_sent form u bs a more t h =
    let p = pick_sent form u bs (is_store form u.store) (leb (length (report_head u.sequence)) u.room)
    (sent u bs (due_of form u.store u.now (table_in bs)) (written_of form u (table_in bs)))
    (refused u.room ReplyTooLong (after_turn bs u.last))
    (refused u.room NotAStore (after_turn bs u.last))
    (written_of form u (table_in bs)) a more h in
    opened form u bs t ∙ p.1 ∙ sent_framed form u bs (due_of form u.store u.now (table_in bs)) (written_of form u (table_in bs)) a more refl p.0
    ∙ ap (λ w. replied u.room (report_head u.sequence ++ encode_all (record_in u.store) (a ∷ more))
    (after_turn (table_bytes capacity (mark_each u.store u.now w (table_in bs))) (last_of id_of u.last w))) (sym h)

-- ---- the attributes of a store ascend

ascends : (least : ℕ) (l : List Attribute) → ascending least l ≡ true → Each (λ a. leb least (id_of a)) l × Row id_of ltb l
unfolding ascending
ascends least [] h = (tt, tt)
ascends least (a ∷ more) h =
    let p = and_true (leb least (id_of a)) (ascending (suc (id_of a)) more) h in
    let r = ascends (suc (id_of a)) more p.1 in
    let w = leb-true least (id_of a) p.0 in
    ((p.0, each_weaker (λ b. leb (suc (id_of a)) (id_of b)) (λ b. leb least (id_of b)) (λ b t. let v = leb-true (suc (id_of a)) (id_of b) t in le-leb least (id_of b) (omega arith)) more r.0), (r.0, r.1))

pub store_row : (form : ℕ) (s : List ℕ) → is_store form s ≡ true → Row id_of ltb (attributes_of form s)
unfolding is_store
store_row form s h =
    let p = (and_true (leb (count_of s) 64) _ h).1 in
    (ascends 0 (attributes_of form s) (and_true (ascending 0 (attributes_of form s)) _ p).0).1

-- ---- their ids have two bytes

pub small_id : (form : ℕ) (s : List ℕ) (i : ℕ) → AllBytes s → id_of (attribute_at form s i) < 65536
unfolding attribute_at
small_id form s i h = unsigned_below s (4 + i * form) 2 h

small_from : (form : ℕ) (s : List ℕ) → AllBytes s → (n i : ℕ) → Each (λ a. ltb (id_of a) 65536) (attributes_from form s n i)
unfolding attributes_from
small_from form s h zero i = tt
small_from form s h (suc n) i = (lt-ltb _ 65536 (small_id form s i h), small_from form s h n (suc i))

small_ids : (form : ℕ) (s : List ℕ) → AllBytes s → Each (λ a. ltb (id_of a) 65536) (attributes_of form s)
unfolding attributes_of
small_ids form s h = small_from form s h (count_of s) 0

-- ---- what is due has an entry, and is reportable

due_some : (o : Option Entry) (now : ℕ) (v : ℤ) → due_o o now v ≡ true → (e : Entry) × (o ≡ Some e)
due_some None now v h = absurd (false≢true h)
due_some (Some e) now v h = (e, refl)

due_entry : (s : List ℕ) (now : ℕ) (l : List Entry) (a : Attribute) → is_due s now l a ≡ true → (e : Entry) × (lookup_l (key_of (cluster_of s) (id_of a)) l ≡ Some e)
unfolding is_due
due_entry s now l a h = due_some (lookup_l (key_of (cluster_of s) (id_of a)) l) now (value_in s a) (and_true (reportable a) (due_l (key_of (cluster_of s) (id_of a)) now (value_in s a) l) h).1

pub due_reportable : (s : List ℕ) (now : ℕ) (l : List Entry) (a : Attribute) → is_due s now l a ≡ true → reportable a ≡ true
unfolding is_due
due_reportable s now l a h = (and_true (reportable a) (due_l (key_of (cluster_of s) (id_of a)) now (value_in s a) l) h).0

-- ---- how far a turn comes

-- the id q was given back: it has an entry, and comes before x
pub record Nearer (u : Turn) (l : List Entry) (x : ℕ) (back : ℕ) : Type 0 where
  pub id : ℕ
  pub entry : Entry
  pub back_is : back ≡ id
  pub small : id < 65536
  pub stands : lookup_l (key_of (cluster_of u.store) id) l ≡ Some entry
  pub comes : before u.last id x ≡ true

other_side : (a b : Bool) → (a || b) ≡ true → a ≡ false → b ≡ true
other_side true b h k = absurd (true≢false k)
other_side false b h k = h

module _ (form : ℕ) (u : Turn) (l : List Entry) (x : ℕ) where
  abbrev all : List Attribute
  all = round id_of u.last (due_of form u.store u.now l)

  -- due, and of two bytes
  abbrev sound : Attribute → Bool
  sound a = is_due u.store u.now l a && ltb (id_of a) 65536

  nearer : is_store form u.store ≡ true → AllBytes u.store → names id_of x (due_of form u.store u.now l) ≡ true → names id_of x (fitting (one_frame u) all) ≡ false
      → Each (λ a. one_frame u (a ∷ [])) (due_of form u.store u.now l) → Nearer u l x (last_of id_of u.last (fitting (one_frame u) all))
  nearer store bytes due left alone =
      let named : names id_of x all ≡ true = names_round id_of x u.last (due_of form u.store u.now l) ∙ due in
      let single = each_round id_of (λ a. one_frame u (a ∷ [])) u.last (due_of form u.store u.now l) alone in
      let w = fitting_some (one_frame u) id_of x all single named in
      let parts = fitting_splits (one_frame u) all in
      let split : all ≡ (w.0 ∷ w.1) ++ parts.0 = parts.1 ∙ ap (λ t. t ++ parts.0) w.2 in
      let row = subst (Row id_of (before u.last)) split (row_round id_of u.last (due_of form u.store u.now l) (row_keep id_of (is_due u.store u.now l) ltb (attributes_of form u.store) (store_row form u.store store))) in
      let dues = each_first sound (w.0 ∷ w.1) parts.0
      (subst (Each sound) split (each_round id_of sound u.last (due_of form u.store u.now l)
      (each_kept (is_due u.store u.now l) (λ a. ltb (id_of a) 65536) sound (λ a t k. simp (t, k)) (attributes_of form u.store) (small_ids form u.store bytes)))) in
      let rest : names id_of x parts.0 ≡ true = other_side (names id_of x (fitting (one_frame u) all)) (names id_of x parts.0) (sym (names_append id_of x (fitting (one_frame u) all) parts.0) ∙ ap (names id_of x) (sym parts.1) ∙ named) left in
      let b = last_before id_of (before u.last) sound x u.last w.0 w.1 parts.0 row dues rest in
      let both = and_true (is_due u.store u.now l b.0) (ltb (id_of b.0) 65536) b.2 in
      let e = due_entry u.store u.now l b.0 both.0 in
      record { id = id_of b.0; entry = e.0; back_is = ap (last_of id_of u.last) w.2 ∙ b.1; small = ltb-true (id_of b.0) 65536 both.1; stands = e.1; comes = b.3 }

  pub comes_nearer : AllBytes u.store → names id_of x (found_in form u l) ≡ true → names id_of x (frame_of form u l) ≡ false
      → Each (λ a. one_frame u (a ∷ [])) (due_of form u.store u.now l) → Nearer u l x (given_back form u l)
  unfolding begins
  comes_nearer bytes = go (is_store form u.store) refl (leb (length (report_head u.sequence)) u.room)
    where
      go : (a : Bool) → is_store form u.store ≡ a → (b : Bool) → names id_of x (cond (a && b) (due_of form u.store u.now l) []) ≡ true
          → names id_of x (cond (a && b) (written_of form u l) []) ≡ false → Each (λ c. one_frame u (c ∷ [])) (due_of form u.store u.now l)
          → Nearer u l x (last_of id_of u.last (cond (a && b) (written_of form u l) []))
      go true e true f w h = nearer e bytes f w h
      go true e false f w h = absurd (false≢true f)
      go false e b f w h = absurd (false≢true f)

  -- what is found due has an entry
  pub found_entry : names id_of x (found_in form u l) ≡ true → (e : Entry) × (lookup_l (key_of (cluster_of u.store) x) l ≡ Some e)
  found_entry = go (begins form u)
    where
      stands : Option Entry → Bool
      stands None = false
      stands (Some e) = true

      there : (o : Option Entry) → stands o ≡ true → (e : Entry) × (o ≡ Some e)
      there None h = absurd (false≢true h)
      there (Some e) h = (e, refl)

      of_due : (a : Attribute) → is_due u.store u.now l a ≡ true → stands (lookup_l (key_of (cluster_of u.store) (id_of a)) l) ≡ true
      of_due a h = ap stands (due_entry u.store u.now l a h).1

      go : (b : Bool) → names id_of x (cond b (due_of form u.store u.now l) []) ≡ true → (e : Entry) × (lookup_l (key_of (cluster_of u.store) x) l ≡ Some e)
      go true h =
          there (lookup_l (key_of (cluster_of u.store) x) l)
          (each_at id_of x (λ y. stands (lookup_l (key_of (cluster_of u.store) y) l)) (due_of form u.store u.now l)
          (each_ok (is_due u.store u.now l) (λ a. stands (lookup_l (key_of (cluster_of u.store) (id_of a)) l)) of_due (attributes_of form u.store)) h)
      go false h = absurd (false≢true h)
