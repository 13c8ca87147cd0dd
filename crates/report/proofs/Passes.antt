-- What the inner functions come to, over plain values. Assumes nothing.
use Rattle.std.specs.Prelude.{None, Option, Some, unwrap_or}
use mathlib.Core.Path.{◌≡◌, refl, sym, ap, ◌∙◌, subst}
use mathlib.Core.Bool.{Bool, true, false, cond, ◌&&◌}
use mathlib.Core.List.{List, [], ◌∷◌, ◌++◌}
use Prim.Native.Nat.{ℕ, suc, ◌+◌, ◌-◌, ◌≤◌, ◌<◌}
use native.Mathlib.Omega.{arith}
use native.Mathlib.Nat.{sub-zero}
use native.Mathlib.Numerals.{add-one}
use lib.ListN.{length}
use lib.IntN.{ℤ, pos}
use Rattle.types.specs.Number.{AllBytes}
use Rattle.types.specs.Value.{number_at}
use Rattle.frame.specs.Inside.Buffer.{putting, put, Shows, Longer, Stays}
use Rattle.frame.specs.Encoded.{encode_all}
use Rattle.frame.proofs.Encoded.{put_record}
use Rattle.store.specs.declared.lookup.Attribute.{Attribute}
use Rattle.store.specs.Contents.{cluster_of, count_of, attribute_at, attributes_from, attributes_of, reportable}
use Rattle.store.specs.Value.{numbered_by}
use Rattle.reporting.specs.declared.entry.Key.{Key}
use Rattle.reporting.specs.Entries.{mark_l}
use Rattle.reporting.specs.Due.{due_l}
use Rattle.reporting.specs.Table.{capacity}
use Rattle.reporting.specs.Carried.{is_table, table_in, table_read, read_t}
use Rattle.reporting.proofs.CarriageTable.{read_is}
use Rattle.report.specs.declared.turn.Tried.{Tried}
use Rattle.report.specs.declared.turn.Tried.TheVariants as TriedV
use Rattle.report.specs.declared.turn.Swept.{Swept}
use Rattle.report.specs.Report.{report_head}
use Rattle.report.specs.Round.{last_of}
use Rattle.report.specs.Turn.{Turn, id_of, key_of, or_zero, value_in, is_due, record_in, one_frame, turn_for}
use Rattle.report.specs.Inside.Loop.{Sweep, sweep_at, sweep_one, sweep}
use Rattle.report.specs.Inside.Turn.{Passes, Writes, Fills, Ways, Tries, Stands, next, Steps, mine_of}
use Rattle.report.proofs.Moves.{small_id}

pub value_or : (s : List ℕ) (a : Attribute) → unwrap_or (number_at s a.offset a.type_id.0) (pos 0) ≡ value_in s a
value_or s a = go (number_at s a.offset a.type_id.0)
  where
    go : (o : Option ℤ) → unwrap_or o (pos 0) ≡ or_zero (numbered_by o)
    go (Some z) = refl
    go None = refl

-- ---- one attribute

module _ (s : List ℕ) (a : Attribute) (time : ℕ) (bs d : List ℕ) (out : ℕ) (t : is_table capacity bs ≡ true) where
  pub tried_unreportable : reportable a ≡ false → Tries s a time bs d out TriedV.Passed bs d
  unfolding is_due
  tried_unreportable h = (t, λ head w sh. record { not_due = rw h; table = refl; frame = refl })

  module _ (r : reportable a ≡ true) (k : Key) (v : ℤ) (kk : k ≡ key_of (cluster_of s) (id_of a)) (vv : v ≡ value_in s a) (b : Bool) (due : b ≡ due_l k time v (table_in bs)) where
    is-due : is_due s time (table_in bs) a ≡ b
    unfolding is_due
    is-due = ap (λ x. x && due_l (key_of (cluster_of s) (id_of a)) time (value_in s a) (table_in bs)) r ∙ sym (due ∙ (λ i. due_l (kk i) time (vv i) (table_in bs)))

    pub tried_not_due : b ≡ false → Tries s a time bs d out TriedV.Passed bs d
    tried_not_due n = (t, λ head w sh. record { not_due = is-due ∙ n; table = refl; frame = refl })

    module _ (y : b ≡ true) (p : Option ℕ) (d₁ : List ℕ) (g : putting p d₁ ≡ put d out (record_in s a)) where
      pub tried_full : p ≡ None → Tries s a time bs d out TriedV.Full bs d₁
      tried_full e = (
        t,
        λ head w sh.
            let x : Stays (record_in s) head (w ++ (a ∷ [])) (length d) d d₁ = put_record (record_in s) head w a d out None d₁ sh (ap (λ (q : Option ℕ). putting q d₁) (sym e) ∙ g) in
            record { is-due = is-due ∙ y; table = refl; frame = x },
      )

      pub tried_longer : (o : ℕ) (bs₁ : List ℕ) → p ≡ Some o → read_t capacity bs₁ ≡ table_read true (mark_l k time v (table_in bs)) → Tries s a time bs d out (TriedV.Longer o) bs₁ d₁
      tried_longer o bs₁ e m = (
        (read_is capacity bs₁ _ m).0,
        λ head w sh.
            let x : Longer (record_in s) head (w ++ (a ∷ [])) (length d) o d₁ = put_record (record_in s) head w a d out (Some o) d₁ sh (ap (λ (q : Option ℕ). putting q d₁) (sym e) ∙ g) in
            record { is-due = is-due ∙ y; table = m ∙ (λ i. table_read true (mark_l (kk i) time (vv i) (table_in bs))); frame = x },
      )

-- ---- a pass

last_behind : (w : List Attribute) (a : Attribute) (p : ℕ) → id_of a ≡ last_of id_of p (w ++ (a ∷ []))
last_behind [] a p = refl
last_behind (b ∷ w) a p = last_behind w a (id_of b)

module _ (s : List ℕ) (a : Attribute) (time : ℕ) (bs d : List ℕ) (c : Swept) where
  next_full : (u : Turn) (mine : Bool) (x : Sweep) → x.full ≡ true → x ≡ next u mine a x
  next_full u mine x h = rw h

  next_other : (u : Turn) (mine : Bool) (x : Sweep) → mine ≡ false → x ≡ next u mine a x
  next_other u mine x h = rw h (go x.full)
    where
      go : (b : Bool) → x ≡ cond b x x
      go true = refl
      go false = refl

  pub step_full : (mine : Bool) → is_table capacity bs ≡ true → c.full ≡ true → Steps s a mine time bs d c c bs d
  step_full mine t h = (t, λ sequence handed x st. subst (λ y. Stands s handed sequence y bs d c) (next_full (turn_for s sequence handed time (length d)) mine x (sym st.full ∙ h)) st)

  pub step_other : (mine : Bool) → is_table capacity bs ≡ true → mine ≡ false → Steps s a mine time bs d c c bs d
  step_other mine t h = (t, λ sequence handed x st. subst (λ y. Stands s handed sequence y bs d c) (next_other (turn_for s sequence handed time (length d)) mine x h) st)

  module _ (mine : Bool) (m : mine ≡ true) (f : c.full ≡ false) (r : Tried) (bs₁ d₁ : List ℕ) (t : Tries s a time bs d c.out r bs₁ d₁) where
    way : (y : Tried) → r ≡ y → (head : List ℕ) (w : List Attribute) → Shows d c.out (head ++ encode_all (record_in s) w) → Ways s a time head w bs d y bs₁ d₁
    way y q head w sh = subst (λ z. Ways s a time head w bs d z bs₁ d₁) q (t.1 head w sh)

    module _ (sequence : ℕ) (handed : ℕ) (x : Sweep) (st : Stands s handed sequence x bs d c) where
      abbrev u : Turn
      u = turn_for s sequence handed time (length d)

      same : table_in bs ≡ x.entries
      same = (read_is capacity bs x.entries st.table).1

      open_next : next u mine a x ≡ sweep_one u a x
      open_next = rw (m, sym st.full ∙ f)

      due_in : (b : Bool) → is_due s time (table_in bs) a ≡ b → is_due s time x.entries a ≡ b
      due_in b h = ap (λ l. is_due s time l a) (sym same) ∙ h

      one_passed : is_due s time (table_in bs) a ≡ false → x ≡ next u mine a x
      one_passed h = sym (open_next ∙ ap (λ b. cond b (cond (one_frame u (x.written ++ (a ∷ []))) (sweep_at (mark_l (key_of (cluster_of s) (id_of a)) time (value_in s a) x.entries) (x.written ++ (a ∷ [])) false) (sweep_at x.entries x.written true)) x) (due_in false h))

      one_due : (b : Bool) → is_due s time (table_in bs) a ≡ true → one_frame u (x.written ++ (a ∷ [])) ≡ b
          → cond b (sweep_at (mark_l (key_of (cluster_of s) (id_of a)) time (value_in s a) x.entries) (x.written ++ (a ∷ [])) false) (sweep_at x.entries x.written true) ≡ next u mine a x
      one_due b h k =
          sym (open_next
          ∙ (λ i. cond (due_in true h i) (cond (k i) (sweep_at (mark_l (key_of (cluster_of s) (id_of a)) time (value_in s a) x.entries) (x.written ++ (a ∷ [])) false) (sweep_at x.entries x.written true)) x))

    pub step_passed : r ≡ TriedV.Passed → Steps s a mine time bs d c c bs₁ d₁
    step_passed q = (
      t.0,
      λ sequence handed x st.
          let w : Passes s a time bs d bs₁ d₁ = way TriedV.Passed q (report_head sequence) x.written st.shows in
          subst (λ y. Stands s handed sequence y bs₁ d₁ c) (one_passed sequence handed x st w.not_due)
          (subst (λ e. Stands s handed sequence x bs₁ e c) (sym w.frame) (subst (λ e. Stands s handed sequence x e d c) (sym w.table) st)),
    )

    pub step_longer : (o : ℕ) → r ≡ TriedV.Longer o → Steps s a mine time bs d c (record { out = o; last = id_of a; full = false }) bs₁ d₁
    step_longer o q = (
      t.0,
      λ sequence handed x st.
          let w : Writes s a time (report_head sequence) x.written bs d o bs₁ d₁ = way (TriedV.Longer o) q (report_head sequence) x.written st.shows in
          subst (λ y. Stands s handed sequence y bs₁ d₁ (record { out = o; last = id_of a; full = false })) (one_due sequence handed x st true w.is-due w.frame.fit)
          (record {
            table = w.table ∙ ap (λ l. table_read true (mark_l (key_of (cluster_of s) (id_of a)) time (value_in s a) l)) (same sequence handed x st);
            shows = w.frame.shows;
            full = refl;
            last = last_behind x.written a handed;
          }),
    )

    pub step_fills : r ≡ TriedV.Full → Steps s a mine time bs d c (record { out = c.out; last = c.last; full = true }) bs₁ d₁
    step_fills q = (
      t.0,
      λ sequence handed x st.
          let w : Fills s a time (report_head sequence) x.written bs d bs₁ d₁ = way TriedV.Full q (report_head sequence) x.written st.shows in
          subst (λ y. Stands s handed sequence y bs₁ d₁ (record { out = c.out; last = c.last; full = true })) (one_due sequence handed x st false w.is-due w.frame.unfit)
          (record {
            table = ap (read_t capacity) w.table ∙ st.table;
            shows = subst (λ e. Shows e c.out (report_head sequence ++ encode_all (record_in s) x.written)) (sym w.frame.same) st.shows;
            full = refl;
            last = st.last;
          }),
    )

-- ---- the loop of a pass: what is left of the attributes, from where it stands, is the whole

sweep_stays : (mine : Attribute → Bool) (u : Turn) (l : List Attribute) (x : Sweep) → x.full ≡ true → sweep mine u l x ≡ x
sweep_stays mine u [] x h = refl
sweep_stays mine u (a ∷ l) x h = rw h

sweep_next : (mine : Attribute → Bool) (u : Turn) (a : Attribute) (l : List Attribute) (x : Sweep) → sweep mine u (a ∷ l) x ≡ sweep mine u l (next u (mine a) a x)
sweep_next mine u a l x = go x.full refl
  where
    go : (b : Bool) → x.full ≡ b → cond b x (sweep mine u l (cond (mine a) (sweep_one u a x) x)) ≡ sweep mine u l (cond b x (cond (mine a) (sweep_one u a x) x))
    go true e = sym (sweep_stays mine u l x e)
    go false e = refl

module _ (s : List ℕ) (handed : ℕ) (upper : Bool) (time space : ℕ) where
  abbrev mine : Attribute → Bool
  mine a = mine_of upper handed (id_of a)

  -- where the loop stands
  pub record Going (sequence : ℕ) (x₀ : Sweep) (n i : ℕ) (bs d : List ℕ) (c : Swept) : Type 0 where
    pub sweep-at : Sweep
    pub stands : Stands s handed sequence sweep-at bs d c
    pub rest : sweep mine (turn_for s sequence handed time space) (attributes_from 8 s (n - i) i) sweep-at ≡ sweep mine (turn_for s sequence handed time space) (attributes_of 8 s) x₀

  pub going_first : (n : ℕ) → n ≡ count_of s → (bs d : List ℕ) (c : Swept) (sequence : ℕ) (x₀ : Sweep) → Stands s handed sequence x₀ bs d c → Going sequence x₀ n 0 bs d c
  unfolding attributes_of
  going_first n h bs d c sequence x₀ st =
      record { sweep-at = x₀; stands = st; rest = ap (λ k. sweep mine (turn_for s sequence handed time space) (attributes_from 8 s k 0) x₀) (sub-zero n ∙ h) }

  pub going_more : (n i : ℕ) (bs d : List ℕ) (c : Swept) (sequence : ℕ) (x₀ : Sweep) → Going sequence x₀ n i bs d c → i < n → length d ≡ space
      → (a : Attribute) (m : Bool) (r : Swept) (bs₁ d₁ : List ℕ) → a ≡ attribute_at 8 s i → m ≡ mine_of upper handed (id_of a) → Steps s a m time bs d c r bs₁ d₁
      → Going sequence x₀ n (i + 1) bs₁ d₁ r
  unfolding attributes_from
  going_more n i bs d c sequence x₀ g lt len a m r bs₁ d₁ ea em st =
      let k : n - i ≡ suc (n - (i + 1)) = omega arith in
      record {
        sweep-at = next (turn_for s sequence handed time (length d)) m a g.sweep-at;
        stands = st.1 sequence handed g.sweep-at g.stands;
        rest =
            (λ j. sweep mine (turn_for s sequence handed time space) (attributes_from 8 s (n - (i + 1)) (add-one i j)) (next (turn_for s sequence handed time (len j)) (em j) a g.sweep-at))
            ∙ sym (sweep_next mine (turn_for s sequence handed time space) a (attributes_from 8 s (n - (i + 1)) (suc i)) g.sweep-at)
            ∙ ap (λ b. sweep mine (turn_for s sequence handed time space) (b ∷ attributes_from 8 s (n - (i + 1)) (suc i)) g.sweep-at) ea
            ∙ ap (λ q. sweep mine (turn_for s sequence handed time space) (attributes_from 8 s q i) g.sweep-at) (sym k)
            ∙ g.rest;
      }

  pub going_done : (n i : ℕ) (bs d : List ℕ) (c : Swept) (sequence : ℕ) (x₀ : Sweep) → Going sequence x₀ n i bs d c → n ≤ i
      → Stands s handed sequence (sweep mine (turn_for s sequence handed time space) (attributes_of 8 s) x₀) bs d c
  unfolding attributes_from
  going_done n i bs d c sequence x₀ g h =
      let k : n - i ≡ 0 = omega arith in
      subst (λ y. Stands s handed sequence y bs d c) (ap (λ q. sweep mine (turn_for s sequence handed time space) (attributes_from 8 s q i) g.sweep-at) (sym k) ∙ g.rest) g.stands

-- an id has two bytes
pub id_below : (s : List ℕ) (i : ℕ) (a : Attribute) → AllBytes s → a ≡ attribute_at 8 s i → id_of a < 65536
id_below s i a h e = subst (λ (b : Attribute). id_of b < 65536) (sym e) (small_id 8 s i h)
