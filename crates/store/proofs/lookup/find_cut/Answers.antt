use mathlib.Core.Path.{◌≡◌, ◌∙◌}
use Rattle.std.proofs.Common.{rules}
use Rattle.store.proofs.Scan.{none_there, one_there}
use Rattle.store.specs.Contents.{attribute_at}
use Rattle.store.proofs.lookup.find_cut.Goals as goal

pub returns-then-n-i : goal.returns-then-n-i
returns-then-n-i c =
    let s = c.args.s.now in
    none_there s _ c.args.wanted c.requires c.place-i.result c.place-i.ensures.within
    (λ k h.
    let p = c.place-i.ensures.passed k h in
    let q : p.0 ≡ (attribute_at 8 s k).name.0 = search rules in
    λ e. p.2 (q ∙ e))
    c.if-n-i.true

pub returns : goal.returns
returns c =
    let s = c.args.s.now in
    let hit = c.place-i.ensures.hit c.if-n-i.false in
    one_there s _ c.args.wanted c.requires c.place-i.result c.place-i.ensures.within
    (λ k h.
    let p = c.place-i.ensures.passed k h in
    let q : p.0 ≡ (attribute_at 8 s k).name.0 = search rules in
    λ e. p.2 (q ∙ e))
    _ c.if-n-i.false (search rules) c.attribute_at.ensures
