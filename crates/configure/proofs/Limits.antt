-- A Configure Reporting frame under two limits (specs/Claims/Limits.antt). Assumes nothing.
use Rattle.std.specs.Prelude.{None, Option, Some}
use mathlib.Core.Path.{◌≡◌, refl, ap, ◌∙◌}
use mathlib.Core.Bool.{Bool, true, false, cond}
use mathlib.Core.List.{List, [], ◌∷◌}
use Prim.Native.Nat.{ℕ, ◌≤◌}
use lib.ListN.{length}
use lib.Dec.{eqb}
use Rattle.frame.specs.declared.header.ZclHeader.{ZclHeader}
use Rattle.frame.specs.declared.command_identifier.CommandIdentifier.TheVariants.{ConfigureReportingResponse}
use Rattle.frame.specs.declared.status.Status.TheVariants.{InvalidDataType, UnreportableAttribute}
use Rattle.frame.specs.Header.{reply_head}
use Rattle.frame.specs.Walk.{Ending, done, cut, Way, stopped, walk, taken}
use Rattle.frame.specs.Encoded.{fits}
use Rattle.frame.specs.Failures.{Did, did, Sofar, sofar, noted, done_with, pass_from, concluded, performed, headed}
use Rattle.store.specs.declared.lookup.Attribute.{Attribute}
use Rattle.store.specs.Contents.{name_of, find_of, reportable}
use Rattle.reporting.specs.declared.entry.Entry.{Entry}
use Rattle.reporting.specs.Wish.{wish}
use Rattle.reporting.proofs.Limits.{record_same}
use Rattle.configure.specs.Request.{key_for, ConfigureRecord, received, reported, configures}
use Rattle.configure.specs.Configure.{Failure, encode, checked, setting, tried, configuring, configure_entries}
use Rattle.configure.specs.Claims.History.{records_done}
use Rattle.configure.specs.Claims.Limits.{RecordsWithin, ConfigureLimitsAgree}

module _ (form small large : ℕ) (order : small ≤ large) (s : List ℕ) (request : ZclHeader) where
  -- ---- a record

  checked_same : (x : Option Attribute) (t : ℕ) (l : List Entry) (a b : Did (List Entry)) → (length b.state ≤ small → a ≡ b) → length (checked x t l b).state ≤ small → checked x t l a ≡ checked x t l b
  checked_same None t l a b f h = refl
  checked_same (Some y) t l a b f h = go (reportable y) (eqb y.type_id.0 t) h
    where
      go : (p q : Bool) → length (cond p (cond q b (did InvalidDataType l)) (did UnreportableAttribute l)).state ≤ small
          → cond p (cond q a (did InvalidDataType l)) (did UnreportableAttribute l) ≡ cond p (cond q b (did InvalidDataType l)) (did UnreportableAttribute l)
      go true true h = f h
      go true false h = refl
      go false q h = refl

  tried_same : (l : List Entry) (r : ConfigureRecord) → length l ≤ small → length (tried form large s request l r).state ≤ small → tried form small s request l r ≡ tried form large s request l r
  unfolding tried setting
  tried_same l (received direction id) few h = refl
  tried_same l (reported id t g) few h =
      checked_same (find_of form s (name_of request.manufacturer_code.0 id)) t l _ _
      (λ k. let a = record_same small large order l few (key_for s request id) g (wish g) k in λ i. did (a.0 i) (a.1 i)) h

  -- ---- the walk

  abbrev turn : ℕ → Sofar (List Entry) Failure → ConfigureRecord → Sofar (List Entry) Failure
  turn limit = done_with (configuring form limit s request)

  turn_same : (x : Sofar (List Entry) Failure) (r : ConfigureRecord) → length x.state ≤ small → length (tried form large s request x.state r).state ≤ small → turn small x r ≡ turn large x r
  unfolding done_with
  turn_same x r few h = ap (noted (configuring form large s request) x.failures r) (tried_same x.state r few h)

  first_few : (l : List Entry) (rs : List ConfigureRecord) → RecordsWithin form small large s request l rs → length l ≤ small
  first_few l [] h = h
  first_few l (r ∷ rs) h = h.0

  walk_same : (fine : Sofar (List Entry) Failure → Bool) (x : Sofar (List Entry) Failure) (e : Ending) (rs : List ConfigureRecord) → RecordsWithin form small large s request x.state (taken (turn large) fine x rs) → walk (turn small) fine x e rs ≡ walk (turn large) fine x e rs
  unfolding walk taken done_with
  walk_same fine x done [] h = refl
  walk_same fine x cut [] h = refl
  walk_same fine x e (r ∷ rs) h =
      ap (λ (y : Sofar (List Entry) Failure). cond (fine y) (walk (turn small) fine y e rs) (stopped x y)) (turn_same x r h.0 (first_few (tried form large s request x.state r).state (cond (fine (turn large x r)) (taken (turn large) fine (turn large x r) rs) []) h.1))
      ∙ go (fine (turn large x r)) h.1 (walk_same fine (turn large x r) e rs)
    where
      go : (b : Bool) → RecordsWithin form small large s request (turn large x r).state (cond b (taken (turn large) fine (turn large x r) rs) [])
          → (RecordsWithin form small large s request (turn large x r).state (taken (turn large) fine (turn large x r) rs) → walk (turn small) fine (turn large x r) e rs ≡ walk (turn large) fine (turn large x r) e rs)
          → cond b (walk (turn small) fine (turn large x r) e rs) (stopped x (turn large x r)) ≡ cond b (walk (turn large) fine (turn large x r) e rs) (stopped x (turn large x r))
      go true h rec = rec h
      go false h rec = refl

-- ---- the command

pub configure_limits_agree : ConfigureLimitsAgree
unfolding configure_entries headed performed pass_from records_done
configure_limits_agree form small large s l request body room order h =
    let head : List ℕ = reply_head request ConfigureReportingResponse in
    ap
    (λ (w : Way (Sofar (List Entry) Failure)).
    headed request ConfigureReportingResponse l room (λ out. concluded encode room out w))
    (walk_same form small large order s request (λ x. fits encode room (length head) x.failures) (sofar l []) (configures body).ending (configures body).list h)
