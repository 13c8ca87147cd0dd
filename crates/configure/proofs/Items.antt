-- One record of a configure request: where it stands. Assumes nothing.
use mathlib.Core.Path.{◌≡◌, refl, sym, ap, ◌∙◌}
use mathlib.Core.Bool.{Bool, true, false, cond}
use mathlib.Core.List.{List}
use Prim.Native.Nat.{ℕ, ◌+◌, ◌≤◌, ◌<◌}
use native.Mathlib.Omega.{arith}
use native.Mathlib.Nat.{add_assoc}
use lib.ListN.{length, get_or}
use lib.Dec.{leb, eqb}
use borrow.Author.Tests.{le-leb, lt-leb, leb-true, eq-eqb, ne_eqb}
use Rattle.types.specs.Number.{unsigned_at}
use Rattle.frame.specs.Walk.{item, unread}
use Rattle.frame.proofs.Walks.{Ahead}
use Rattle.reporting.specs.declared.entry.ReportingConfig.{ReportingConfig}
use Rattle.frame.specs.Sized.{up_to}
use Rattle.configure.specs.Request.{ConfigureRecord, received, reported, change_width, config_at, configure_at}

-- ---- a record up to its end

module _ (body : List ℕ) (q : ℕ) (r : ConfigureRecord) where
  pub up_to_in : q ≤ length body → up_to body q r ≡ item r q
  up_to_in h = rw (le-leb q (length body) h)

  pub up_to_past : length body < q → up_to body q r ≡ unread
  up_to_past h = rw (lt-leb q (length body) h)

  -- THE INVERSION: what can be read lies within the body
  pub up_to_is : (x : ConfigureRecord) (e : ℕ) → up_to body q r ≡ item x e → (q ≤ length body) × ((q ≡ e) × (r ≡ x))
  up_to_is x e = go (leb q (length body)) refl
    where
      go : (b : Bool) → leb q (length body) ≡ b → cond b (item r q) unread ≡ item x e → (q ≤ length body) × ((q ≡ e) × (r ≡ x))
      go true h g = (leb-true q (length body) h, (cc, cc))
      go false h g = let z : ◌≡◌ {A = ℕ} 0 1 = cc in absurd (omega arith)

-- ---- a record by its direction: what it is, and where it ends

abbrev pub here_at : Bool → List ℕ → ℕ → ConfigureRecord
here_at b body p =
    cond b (reported (unsigned_at body (p + 1) 2) (get_or body (p + 3) 0) (config_at body (p + 4) (get_or body (p + 3) 0)))
    (received (get_or body p 0) (unsigned_at body (p + 1) 2))

abbrev pub size_at : Bool → List ℕ → ℕ → ℕ
size_at b body p = cond b (8 + change_width (get_or body (p + 3) 0)) 5

abbrev pub is_reported : List ℕ → ℕ → Bool
is_reported body p = eqb (get_or body p 0) 0

least : (b : Bool) (body : List ℕ) (p : ℕ) → 5 ≤ size_at b body p
least true body p = omega arith
least false body p = omega arith

pub record-at : (body : List ℕ) (p : ℕ) → configure_at body p ≡ up_to body (p + size_at (is_reported body p) body p) (here_at (is_reported body p) body p)
unfolding configure_at
record-at body p = go (is_reported body p)
  where
    go : (b : Bool) → cond b (up_to body (p + size_at true body p) (here_at true body p)) (up_to body (p + size_at false body p) (here_at false body p)) ≡ up_to body (p + size_at b body p) (here_at b body p)
    go true = refl
    go false = refl

module _ (body : List ℕ) (p : ℕ) where
  -- fewer than five bytes are none
  pub record_short : length body < p + 5 → unread ≡ configure_at body p
  record_short h =
      let l = least (is_reported body p) body p in
      sym (record-at body p ∙ up_to_past body (p + size_at (is_reported body p) body p) (here_at (is_reported body p) body p) (omega arith))

  -- direction not 0
  pub received_is : (get_or body p 0 ≡ 0 → ⊥) → (id : ℕ) → id ≡ unsigned_at body (p + 1) 2 → p + 5 ≤ length body → item (received (get_or body p 0) id) (p + 5) ≡ configure_at body p
  received_is n id e h =
      ap (λ (k : ℕ). item (received (get_or body p 0) k) (p + 5)) e
      ∙ sym (record-at body p ∙ ap (λ (b : Bool). up_to body (p + size_at b body p) (here_at b body p)) (ne_eqb (get_or body p 0) 0 n) ∙ up_to_in body (p + 5) (here_at false body p) h)

  -- direction 0
  module _ (z : get_or body p 0 ≡ 0) where
    reported_at : configure_at body p ≡ up_to body (p + size_at true body p) (here_at true body p)
    reported_at = record-at body p ∙ ap (λ (b : Bool). up_to body (p + size_at b body p) (here_at b body p)) (eq-eqb (get_or body p 0) 0 z)

    pub reported_short : length body < p + 8 + change_width (get_or body (p + 3) 0) → unread ≡ configure_at body p
    reported_short h = sym (reported_at ∙ up_to_past body (p + size_at true body p) (here_at true body p) (omega arith))

    pub reported_is : (w : ℕ) → w ≡ change_width (get_or body (p + 3) 0) → (id : ℕ) → id ≡ unsigned_at body (p + 1) 2 → (g : ReportingConfig) → g ≡ config_at body (p + 4) (get_or body (p + 3) 0)
        → p + 8 + w ≤ length body → item (reported id (get_or body (p + 3) 0) g) (p + 8 + w) ≡ configure_at body p
    reported_is w v id e g f h =
        let end : p + 8 + w ≡ p + size_at true body p = add_assoc p 8 w ∙ ap (λ (k : ℕ). p + (8 + k)) v in
        let same : reported id (get_or body (p + 3) 0) g ≡ here_at true body p = ap (λ (k : ℕ). reported k (get_or body (p + 3) 0) g) e ∙ ap (reported (unsigned_at body (p + 1) 2) (get_or body (p + 3) 0)) f in
        ap (λ (k : ℕ). item (reported id (get_or body (p + 3) 0) g) k) end
        ∙ ap (λ (r : ConfigureRecord). item r (p + size_at true body p)) same
        ∙ sym (reported_at ∙ up_to_in body (p + size_at true body p) (here_at true body p) (omega arith))

  -- a record that can be read lies within the body, and has five bytes at least
  pub record_within : (r : ConfigureRecord) (q : ℕ) → configure_at body p ≡ item r q → (p + 5 ≤ q) × (q ≤ length body)
  record_within r q g =
      let x = up_to_is body (p + size_at (is_reported body p) body p) (here_at (is_reported body p) body p) r q (sym (record-at body p) ∙ g) in
      let l = least (is_reported body p) body p in
      (omega (arith, x.1.0), omega (arith, x.0, x.1.0))

pub ahead : (body : List ℕ) → Ahead (configure_at body)
ahead body p r q e = omega (arith, record_within body p r q e)
