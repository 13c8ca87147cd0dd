-- Two limits (specs/Claims/Limits.antt): a call that leaves no more entries than the smaller limit has room for does the same under both. Assumes nothing.
use mathlib.Core.Path.{◌≡◌, refl, ap, ◌∙◌}
use mathlib.Core.Bool.{Bool, true, false, cond, ◌&&◌, ◌||◌}
use mathlib.Core.List.{List, [], ◌∷◌, ◌++◌, map}
use Prim.Native.Nat.{ℕ, ◌≤◌, ◌<◌}
use native.Mathlib.Omega.{arith}
use lib.ListN.{length, length-append, length-map}
use lib.Dec.{ltb, leb}
use borrow.Author.Tests.{ltb-false, lt-ltb, le-ltb, le-leb, lt-leb, leb-false}
use Rattle.reporting.specs.declared.entry.Key.{Key}
use Rattle.reporting.specs.declared.entry.ReportingConfig.{ReportingConfig}
use Rattle.reporting.specs.declared.entry.Entry.{Entry}
use Rattle.reporting.specs.declared.entry.Wish.{Wish}
use Rattle.reporting.specs.declared.entry.Wish.TheVariants.{ToClear, ToRefuse, ToSet}
use Rattle.reporting.specs.Entries.{find_l, fresh, replaced, distinct, unreported, update_l, accepts_l, configure_l}
use Rattle.reporting.specs.Wish.{wish, status_w, record_w}
use Rattle.reporting.specs.Claims.Events.{Call, config_record, configure, clear, ask, mark, configuration, len, restore, call, calls}
use Rattle.reporting.specs.Table.{capacity}
use Rattle.reporting.specs.Claims.Limits.{accepted, status, says, all_say, Within, LimitsAgree, SixteenAsBefore, SeventeenPart}

-- what holds of the two limits: the same is said, and the same entries are left
pub record Agree (small large : ℕ) (c : Call) (l : List Entry) : Type 0 where
  pub said : says small c l ≡ says large c l
  pub left : call small c l ≡ call large c l

module _ (small large : ℕ) (order : small ≤ large) (l : List Entry) (few : length l ≤ small) where
  -- ---- a configuration

  module _ (k : Key) (g : ReportingConfig) where
    -- there is room under both or under neither, where the key has no entry yet
    room_same : ltb (find_l k l) (length l) ≡ false → length (configure_l large k g l) ≤ small → ltb (length l) small ≡ ltb (length l) large
    room_same none h = go (ltb (length l) large) refl
      where
        go : (b : Bool) → ltb (length l) large ≡ b → ltb (length l) small ≡ b
        go true e =
            let added : configure_l large k g l ≡ l ++ (fresh k g ∷ []) = rw (none, e) refl in
            lt-ltb (length l) small (omega (arith, h, ap length added, length-append l (fresh k g ∷ [])))
        go false e = let full : large ≤ length l = ltb-false (length l) large e in rw (le-ltb (length l) small (omega arith)) refl

    -- so it is accepted under both or under neither, and leaves the same
    record Sets : Type 0 where
      accepts : accepts_l small k l ≡ accepts_l large k l
      leaves : configure_l small k g l ≡ configure_l large k g l

    set_same : length (configure_l large k g l) ≤ small → Sets
    set_same h = go (ltb (find_l k l) (length l)) refl
      where
        go : (t : Bool) → ltb (find_l k l) (length l) ≡ t → Sets
        go true e = record { accepts = rw e refl; leaves = rw e refl }
        go false e =
            let r = room_same e h in
            record {
              accepts = ap (λ (b : Bool). ltb (find_l k l) (length l) || b) r;
              leaves = ap (λ (b : Bool). cond (ltb (find_l k l) (length l)) (update_l k (replaced k g) l) (cond b (l ++ (fresh k g ∷ [])) l)) r;
            }

    pub record_same : (w : Wish) → length (record_w w large k g l) ≤ small
        → (status_w w (accepts_l small k l) ≡ status_w w (accepts_l large k l)) × (record_w w small k g l ≡ record_w w large k g l)
    record_same ToClear h = (refl, refl)
    record_same ToRefuse h = (refl, refl)
    record_same ToSet h = let s = set_same h in (ap (status_w ToSet) s.accepts, s.leaves)

  -- ---- entries read in

  read_same : (come : List Entry) (d : Bool) → length (cond (d && leb (length come) large) (map unreported come) []) ≤ small → (d && leb (length come) small) ≡ (d && leb (length come) large)
  read_same come false h = refl
  read_same come true h = go (leb (length come) large) refl h
    where
      go : (b : Bool) → leb (length come) large ≡ b → length (cond b (map unreported come) []) ≤ small → leb (length come) small ≡ b
      go true e h = le-leb (length come) small (omega (arith, h, length-map come unreported))
      go false e h = let many : large < length come = leb-false (length come) large e in lt-leb (length come) small (omega arith)

  -- ---- a call

  pub agree : (c : Call) → length (call large c l) ≤ small → Agree small large c l
  agree (config_record k g) h = let s = record_same k g (wish g) h in record { said = ap status s.0; left = s.1 }
  agree (configure k g) h = let s = set_same k g h in record { said = ap accepted s.accepts; left = s.leaves }
  agree (clear k) h = record { said = refl; left = refl }
  agree (ask k now v) h = record { said = refl; left = refl }
  agree (mark k now v) h = record { said = refl; left = refl }
  agree (configuration k) h = record { said = refl; left = refl }
  agree len h = record { said = refl; left = refl }
  agree (restore come) h =
      let s = read_same come (distinct come) h in
      record { said = ap accepted s; left = ap (λ (b : Bool). cond b (map unreported come) []) s }

-- ---- and so calls

first_few : (small large : ℕ) (cs : List Call) (l : List Entry) → Within small large cs l → length l ≤ small
first_few small large [] l h = h
first_few small large (c ∷ cs) l h = h.0

pub limits_agree : LimitsAgree
limits_agree small large [] l order h = (refl, refl)
limits_agree small large (c ∷ cs) l order h =
    let a = agree small large order l h.0 c (first_few small large cs (call large c l) h.1) in
    let more = limits_agree small large cs (call large c l) order h.1 in (
      (λ i. a.said i ∷ (ap (all_say small cs) a.left ∙ more.0) i),
      ap (calls small cs) a.left ∙ more.1,
    )

-- ---- sixteen, and a table now

pub sixteen_as_before : SixteenAsBefore
sixteen_as_before cs h = limits_agree 16 capacity cs [] (omega arith) h

pub seventeen_part : SeventeenPart
seventeen_part = record { sixteenth = refl; seventeenth_then = refl; seventeenth_now = refl; last_now = refl; past_now = refl }
