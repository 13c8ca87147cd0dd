-- The buffer has the store, and then the store written. Assumes nothing.
use Rattle.std.specs.Prelude.{Some}
use mathlib.Core.Path.{◌≡◌, sym, ap, ◌∙◌}
use mathlib.Core.List.{List}
use Prim.Native.Nat.{ℕ}
use Rattle.store.specs.Write.{wrote, write_of}
use Rattle.replay.specs.Bytes.{same}
use Rattle.replay.proofs.Matches.{pointwise_same}
use Rattle.replay.proofs.Says.{filled, write_on, write_off}
use Rattle.replay.proofs.stores.written.Goals as goal

pub returns-in_default : goal.returns-in_default
returns-in_default c =
    let done : wrote c.write-status.result c.write-status.new.s ≡ write_of 8 c.args.store.now c.args.name.0 c.args.type_id.0 c.args.value.now =
    c.write-status.ensures
    ∙ ap (λ (s : List ℕ). write_of 8 s c.args.name.0 c.args.type_id.0 c.args.value.now) (filled c.args.copy.now c.args.store.now _ _ c.requires c.put_run.ensures) in
    write_off c.args.held.now _ _ _ _ done c.from.ensures (sym c.match_run.ensures ∙ c.in_default.is)

pub returns : goal.returns
returns c =
    let done : wrote c.write-status.result c.write-status.new.s ≡ write_of 8 c.args.store.now c.args.name.0 c.args.type_id.0 c.args.value.now =
    c.write-status.ensures
    ∙ ap (λ (s : List ℕ). write_of 8 s c.args.name.0 c.args.type_id.0 c.args.value.now) (filled c.args.copy.now c.args.store.now _ _ c.requires c.put_run.ensures) in
    ap Some (c.eq.ensures ∙ pointwise_same _ _)
    ∙ ap (λ (s : List ℕ). Some (same c.write-status.new.s s)) c.rest.ensures
    ∙ write_on c.args.held.now _ _ _ _ done c.from.ensures _ (sym c.match_run.ensures ∙ c.in-Some.is)
