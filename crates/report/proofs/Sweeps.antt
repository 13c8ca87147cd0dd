-- The turn as a loop does it is the turn. Assumes nothing.
-- What is left to write does not depend on what was marked: no id comes twice (`due_still`).
use mathlib.Core.Path.{◌≡◌, refl, sym, ap, ◌∙◌}
use mathlib.Core.Bool.{Bool, true, false, not, cond, ◌&&◌, ◌||◌, true≢false, false≢true}
use mathlib.Core.List.{List, [], ◌∷◌, ◌++◌, append-nil, append_assoc}
use Prim.Native.Nat.{ℕ}
use native.Mathlib.Omega.{arith}
use lib.Dec.{ltb, eqb}
use borrow.Author.Tests.{eq-eqb, ne_eqb, ltb-true, not-true}
use Rattle.frame.specs.declared.answer.Refusal.TheVariants.{ReplyTooLong, NothingToSend, NotAStore}
use Rattle.frame.specs.Answer.{refused}
use Rattle.store.specs.declared.lookup.Attribute.{Attribute}
use Rattle.store.specs.Contents.{cluster_of, attributes_of, reportable}
use Rattle.store.specs.Layout.{is_store}
use Rattle.reporting.specs.declared.entry.Entry.{Entry}
use Rattle.reporting.specs.Entries.{lookup_l, mark_l}
use Rattle.reporting.specs.Due.{due_o}
use Rattle.reporting.specs.Table.{capacity}
use Rattle.reporting.specs.Carried.{table_in, table_bytes}
use Rattle.report.specs.Round.{keep, above, round, fitting_behind, fitting}
use Rattle.report.specs.Turn.{Turn, id_of, key_of, value_in, is_due, due_of, one_frame, written_of, mark_each, framed, sent, after_turn}
use Rattle.report.specs.Claims.Words.{names, Each, Row}
use Rattle.report.specs.Inside.Loop.{Sweep, sweep_at, sweep_one, sweep, swept, ended, LoopsAreTurns}
use Rattle.report.proofs.Lists.{or_false, not_empty, names_append, each_at, each_ok}
use Rattle.report.proofs.Moves.{opened, store_row}
use Rattle.report.proofs.Looks.{mark_other}

-- ---- lists

mark_behind : (s : List ℕ) (now : ℕ) (w : List Attribute) (a : Attribute) (l : List Entry)
    → mark_each s now (w ++ (a ∷ [])) l ≡ mark_l (key_of (cluster_of s) (id_of a)) now (value_in s a) (mark_each s now w l)
mark_behind s now [] a l = refl
mark_behind s now (x ∷ w) a l = mark_behind s now w a (mark_l (key_of (cluster_of s) (id_of x)) now (value_in s x) l)

-- all of them fit
abbrev all_fit : {A : Type 0} → (List A → Bool) → List A → List A → Bool
all_fit fit early [] = true
all_fit fit early (a ∷ more) = cond (fit (early ++ (a ∷ []))) (all_fit fit (early ++ (a ∷ [])) more) false

-- as many as fit of two lists, one behind the other
fit_append : (fit : List Attribute → Bool) (early l m : List Attribute)
    → fitting_behind fit early (l ++ m) ≡ cond (all_fit fit early l) (l ++ fitting_behind fit (early ++ l) m) (fitting_behind fit early l)
fit_append fit early [] m = ap (λ b. fitting_behind fit b m) (sym (append-nil early))
fit_append fit early (a ∷ l) m = go (fit (early ++ (a ∷ []))) (fit_append fit (early ++ (a ∷ [])) l m)
  where
    b : List Attribute
    b = early ++ (a ∷ [])

    inner : (c : Bool) → cond c (l ++ fitting_behind fit (b ++ l) m) (fitting_behind fit b l) ≡ cond c (l ++ fitting_behind fit (early ++ (a ∷ l)) m) (fitting_behind fit b l)
    inner true = ap (λ e. l ++ fitting_behind fit e m) (append_assoc early (a ∷ []) l)
    inner false = refl

    put : (c : Bool) → a ∷ cond c (l ++ fitting_behind fit (early ++ (a ∷ l)) m) (fitting_behind fit b l) ≡ cond c (a ∷ (l ++ fitting_behind fit (early ++ (a ∷ l)) m)) (a ∷ fitting_behind fit b l)
    put true = refl
    put false = refl

    go : (t : Bool) → fitting_behind fit b (l ++ m) ≡ cond (all_fit fit b l) (l ++ fitting_behind fit (b ++ l) m) (fitting_behind fit b l)
        → cond t (a ∷ fitting_behind fit b (l ++ m)) [] ≡ cond (cond t (all_fit fit b l) false) (a ∷ (l ++ fitting_behind fit (early ++ (a ∷ l)) m)) (cond t (a ∷ fitting_behind fit b l) [])
    go true ih = ap (λ r. a ∷ r) (ih ∙ inner (all_fit fit b l)) ∙ put (all_fit fit b l)
    go false ih = refl

-- ---- what is due stays due while others are marked

not_marked : (s : List ℕ) (now x : ℕ) (w : List Attribute) (l : List Entry) → names id_of x w ≡ false → lookup_l (key_of (cluster_of s) x) (mark_each s now w l) ≡ lookup_l (key_of (cluster_of s) x) l
not_marked s now x [] l h = refl
not_marked s now x (a ∷ w) l h =
    let p = or_false (eqb (id_of a) x) (names id_of x w) h in
    not_marked s now x w (mark_l (key_of (cluster_of s) (id_of a)) now (value_in s a) l) p.1
    ∙ mark_other s now (key_of (cluster_of s) (id_of a)) (key_of (cluster_of s) x) (value_in s a) l (rw (eq-eqb (cluster_of s) (cluster_of s) refl) p.0)

due_still : (s : List ℕ) (now : ℕ) (l : List Entry) (w : List Attribute) (a : Attribute) → names id_of (id_of a) w ≡ false → is_due s now (mark_each s now w l) a ≡ is_due s now l a
unfolding is_due
due_still s now l w a h = ap (λ o. reportable a && due_o o now (value_in s a)) (not_marked s now (id_of a) w l h)

-- ---- one pass

module _ (mine : Attribute → Bool) (u : Turn) (l : List Entry) where
  abbrev due : Attribute → Bool
  due = is_due u.store u.now l

  -- with these written so far
  abbrev behind : List Attribute → Bool → Sweep
  behind w full = sweep_at (mark_each u.store u.now w l) w full

  sweep_full : (as' : List Attribute) (w : List Attribute) → sweep mine u as' (behind w true) ≡ behind w true
  sweep_full [] w = refl
  sweep_full (a ∷ more) w = refl

  -- none that is still to come was written
  abbrev New : List Attribute → List Attribute → Type 0
  New w [] = Unit
  New w (a ∷ more) = (mine a ≡ true → names id_of (id_of a) w ≡ false) × New w more

  new_behind : (w : List Attribute) (a : Attribute) (more : List Attribute) → New w more → Each (λ b. ltb (id_of a) (id_of b)) more → New (w ++ (a ∷ [])) more
  new_behind w a [] n r = tt
  new_behind w a (b ∷ more) n r = (
    λ m. names_append id_of (id_of b) w (a ∷ []) ∙ (λ i. n.0 m i || (ne_eqb (id_of a) (id_of b) (λ q. let k = ltb-true (id_of a) (id_of b) r.0 in omega (arith, q, k)) i || false)),
    new_behind w a more n.1 r.1,
  )

  sweep_is : (as' : List Attribute) (w : List Attribute) → Row id_of ltb as' → New w as'
      → sweep mine u as' (behind w false) ≡ behind (w ++ fitting_behind (one_frame u) w (keep mine (keep due as'))) (not (all_fit (one_frame u) w (keep mine (keep due as'))))
  sweep_is [] w r n = ap (λ x. behind x false) (sym (append-nil w))
  sweep_is (a ∷ more) w r n =
      ap (λ c. sweep mine u more c) (one (mine a) refl)
      ∙ go (mine a) (due a) (sweep_is more w r.1 n.1) (both (one_frame u (w ++ (a ∷ []))) (sweep_is more (w ++ (a ∷ [])) r.1 (new_behind w a more n.1 r.0)))
      ∙ ap (λ k. behind (w ++ fitting_behind (one_frame u) w k) (not (all_fit (one_frame u) w k))) (sym (front (due a)))
    where
      one : (b : Bool) → mine a ≡ b → cond b (sweep_one u a (behind w false)) (behind w false)
          ≡ cond b (cond (due a) (cond (one_frame u (w ++ (a ∷ []))) (behind (w ++ (a ∷ [])) false) (behind w true)) (behind w false)) (behind w false)
      one true m = λ i. cond (due_still u.store u.now l w a (n.0 m) i) (cond (one_frame u (w ++ (a ∷ []))) (sweep_at (sym (mark_behind u.store u.now w a l) i) (w ++ (a ∷ [])) false) (behind w true)) (behind w false)
      one false m = refl

      rest : List Attribute
      rest = keep mine (keep due more)

      front : (d : Bool) → keep mine (cond d (a ∷ keep due more) (keep due more)) ≡ cond d (cond (mine a) (a ∷ rest) rest) rest
      front true = refl
      front false = refl

      both : (f : Bool) → sweep mine u more (behind (w ++ (a ∷ [])) false) ≡ behind ((w ++ (a ∷ [])) ++ fitting_behind (one_frame u) (w ++ (a ∷ [])) rest) (not (all_fit (one_frame u) (w ++ (a ∷ [])) rest))
          → sweep mine u more (cond f (behind (w ++ (a ∷ [])) false) (behind w true))
          ≡ behind (w ++ cond f (a ∷ fitting_behind (one_frame u) (w ++ (a ∷ [])) rest) []) (not (cond f (all_fit (one_frame u) (w ++ (a ∷ [])) rest) false))
      both true jh = jh ∙ ap (λ x. behind x (not (all_fit (one_frame u) (w ++ (a ∷ [])) rest))) (append_assoc w (a ∷ []) (fitting_behind (one_frame u) (w ++ (a ∷ [])) rest))
      both false jh = sweep_full more w ∙ ap (λ x. behind x true) (sym (append-nil w))

      go : (b d : Bool)
          → sweep mine u more (behind w false) ≡ behind (w ++ fitting_behind (one_frame u) w rest) (not (all_fit (one_frame u) w rest))
          → sweep mine u more (cond (one_frame u (w ++ (a ∷ []))) (behind (w ++ (a ∷ [])) false) (behind w true))
          ≡ behind (w ++ fitting_behind (one_frame u) w (a ∷ rest)) (not (all_fit (one_frame u) w (a ∷ rest)))
          → sweep mine u more (cond b (cond d (cond (one_frame u (w ++ (a ∷ []))) (behind (w ++ (a ∷ [])) false) (behind w true)) (behind w false)) (behind w false))
          ≡ behind (w ++ fitting_behind (one_frame u) w (cond d (cond b (a ∷ rest) rest) rest)) (not (all_fit (one_frame u) w (cond d (cond b (a ∷ rest) rest) rest)))
      go true true ih jh = jh
      go true false ih jh = ih
      go false true ih jh = ih
      go false false ih jh = ih

-- ---- both passes

all-fit : (fit : List Attribute → Bool) (early l : List Attribute) → all_fit fit early l ≡ true → fitting_behind fit early l ≡ l
all-fit fit early [] h = refl
all-fit fit early (a ∷ l) h = go (fit (early ++ (a ∷ []))) h (all-fit fit (early ++ (a ∷ [])) l)
  where
    go : (b : Bool) → cond b (all_fit fit (early ++ (a ∷ [])) l) false ≡ true → (all_fit fit (early ++ (a ∷ [])) l ≡ true → fitting_behind fit (early ++ (a ∷ [])) l ≡ l)
        → cond b (a ∷ fitting_behind fit (early ++ (a ∷ [])) l) [] ≡ a ∷ l
    go true h ih = ap (λ r. a ∷ r) (ih h)
    go false h ih = absurd (false≢true h)

all_append : (fit : List Attribute → Bool) (early l m : List Attribute) → all_fit fit early (l ++ m) ≡ cond (all_fit fit early l) (all_fit fit (early ++ l) m) false
all_append fit early [] m = ap (λ b. all_fit fit b m) (sym (append-nil early))
all_append fit early (a ∷ l) m = go (fit (early ++ (a ∷ []))) (all_append fit (early ++ (a ∷ [])) l m ∙ ap (λ b. cond (all_fit fit (early ++ (a ∷ [])) l) (all_fit fit b m) false) (append_assoc early (a ∷ []) l))
  where
    go : (b : Bool) → all_fit fit (early ++ (a ∷ [])) (l ++ m) ≡ cond (all_fit fit (early ++ (a ∷ [])) l) (all_fit fit (early ++ (a ∷ l)) m) false
        → cond b (all_fit fit (early ++ (a ∷ [])) (l ++ m)) false ≡ cond (cond b (all_fit fit (early ++ (a ∷ [])) l) false) (all_fit fit (early ++ (a ∷ l)) m) false
    go true ih = ih
    go false ih = refl

module _ (form : ℕ) (u : Turn) (l : List Entry) (store : is_store form u.store ≡ true) where
  abbrev up : Attribute → Bool
  up a = above u.last (id_of a)

  abbrev down : Attribute → Bool
  down a = not (above u.last (id_of a))

  abbrev attributes : List Attribute
  attributes = attributes_of form u.store

  abbrev ups : List Attribute
  ups = keep up (due_of form u.store u.now l)

  abbrev downs : List Attribute
  downs = keep down (due_of form u.store u.now l)

  row : Row id_of ltb attributes
  row = store_row form u.store store

  nothing_yet : (mine : Attribute → Bool) (as' : List Attribute) → New mine u l [] as'
  nothing_yet mine [] = tt
  nothing_yet mine (a ∷ more) = (λ m. refl, nothing_yet mine more)

  -- what the first pass wrote is none of the second's
  others : (w : List Attribute) → Each up w → (as' : List Attribute) → New down u l w as'
  others w h [] = tt
  others w h (a ∷ more) = (λ m. not_named (names id_of (id_of a) w) refl m, others w h more)
    where
      not_named : (b : Bool) → names id_of (id_of a) w ≡ b → down a ≡ true → b ≡ false
      not_named true e m = absurd (true≢false (sym (each_at id_of (id_of a) (above u.last) w h e) ∙ not-true (up a) m))
      not_named false e m = refl

  first_pass : sweep up u attributes (sweep_at l [] false) ≡ behind up u l (fitting (one_frame u) ups) (not (all_fit (one_frame u) [] ups))
  first_pass = sweep_is up u l attributes [] row (nothing_yet up attributes)

  swept_is : swept form u l ≡ behind down u l (written_of form u l) (not (all_fit (one_frame u) [] (ups ++ downs)))
  swept_is = ap (sweep down u attributes) first_pass ∙ go (all_fit (one_frame u) [] ups) refl
    where
      end : (w w' : List Attribute) (b b' : Bool) → w ≡ w' → b ≡ b' → behind down u l w (not b) ≡ behind down u l w' (not b')
      end w w' b b' p q = λ i. behind down u l (p i) (not (q i))

      goal : (b : Bool) → all_fit (one_frame u) [] ups ≡ b
          → (written_of form u l ≡ cond b (ups ++ fitting_behind (one_frame u) ups downs) (fitting (one_frame u) ups)) × (all_fit (one_frame u) [] (ups ++ downs) ≡ cond b (all_fit (one_frame u) ups downs) false)
      goal b e = (
        fit_append (one_frame u) [] ups downs ∙ ap (λ c. cond c (ups ++ fitting_behind (one_frame u) ups downs) (fitting (one_frame u) ups)) e,
        all_append (one_frame u) [] ups downs ∙ ap (λ c. cond c (all_fit (one_frame u) ups downs) false) e,
      )

      go : (b : Bool) → all_fit (one_frame u) [] ups ≡ b
          → sweep down u attributes (behind down u l (fitting (one_frame u) ups) (not b)) ≡ behind down u l (written_of form u l) (not (all_fit (one_frame u) [] (ups ++ downs)))
      go true e =
          ap (λ w. sweep down u attributes (behind down u l w false)) (all-fit (one_frame u) [] ups e)
          ∙ sweep_is down u l attributes ups row (others ups (each_ok up up (λ a t. t) (due_of form u.store u.now l)) attributes)
          ∙ sym (end _ _ _ _ (goal true e).0 (goal true e).1)
      go false e = sweep_full down u l attributes (fitting (one_frame u) ups) ∙ sym (end _ _ _ _ (goal false e).0 (goal false e).1)

-- ---- the answer

some_up : (u : Turn) (d : List Attribute) → round id_of u.last d ≡ [] → d ≡ []
some_up u [] h = refl
some_up u (a ∷ d) h = absurd (go (above u.last (id_of a)) (keep (λ a. above u.last (id_of a)) d) (keep (λ a. not (above u.last (id_of a))) d) h)
  where
    go : (b : Bool) (k m : List Attribute) → cond b (a ∷ k) k ++ cond (not b) (a ∷ m) m ≡ [] → ⊥
    go true k m h = not_empty a (k ++ m) h
    go false [] m h = not_empty a m h
    go false (x ∷ k) m h = not_empty x (k ++ (a ∷ m)) h

end_is : (u : Turn) (bs : List ℕ) → bs ≡ table_bytes capacity (table_in bs) → (d r : List Attribute) → (r ≡ [] → d ≡ []) → (d ≡ [] → r ≡ [])
    → sent u bs d (fitting (one_frame u) r) ≡ ended u (mark_each u.store u.now (fitting (one_frame u) r) (table_in bs)) (not (all_fit (one_frame u) [] r)) (fitting (one_frame u) r)
end_is u bs own [] [] p q = ap (λ b. refused u.room NothingToSend (after_turn b u.last)) own
end_is u bs own (a ∷ d) [] p q = absurd (not_empty a d (p refl))
end_is u bs own [] (x ∷ r) p q = absurd (not_empty x r (q refl))
end_is u bs own (a ∷ d) (x ∷ r) p q = go (one_frame u (x ∷ []))
  where
    go : (b : Bool) → framed u bs (cond b (x ∷ fitting_behind (one_frame u) (x ∷ []) r) [])
        ≡ ended u (mark_each u.store u.now (cond b (x ∷ fitting_behind (one_frame u) (x ∷ []) r) []) (table_in bs)) (not (cond b (all_fit (one_frame u) (x ∷ []) r) false)) (cond b (x ∷ fitting_behind (one_frame u) (x ∷ []) r) [])
    go true = refl
    go false = ap (λ b. refused u.room ReplyTooLong (after_turn b u.last)) own

pub loop_is : LoopsAreTurns
loop_is form u bs store table own room =
    opened form u bs table
    ∙ (λ i. cond (store i) (cond (room i) (sent u bs (due_of form u.store u.now (table_in bs)) (written_of form u (table_in bs))) (refused u.room ReplyTooLong (after_turn bs u.last))) (refused u.room NotAStore (after_turn bs u.last)))
    ∙ end_is u bs own (due_of form u.store u.now (table_in bs)) (round id_of u.last (due_of form u.store u.now (table_in bs))) (some_up u (due_of form u.store u.now (table_in bs))) (λ e. ap (round id_of u.last) e)
    ∙ ap (λ (c : Sweep). ended u c.entries c.full c.written) (sym (swept_is form u (table_in bs) store))
