-- A global command, a cluster command, or a reserved type. Assumes nothing.
use mathlib.Core.Path.{◌≡◌, refl, sym, ap, ◌∙◌}
use mathlib.Core.List.{[], ◌∷◌}
use types.Run.{OneOf, miss}
use denote.Enum.Declared.{tag_of}
use Rattle.frame.specs.contracts.header.FrameType as frame-type
use lib.ListN.{length}
use Rattle.frame.specs.declared.header.FrameType.{FrameType}
use Rattle.frame.specs.declared.header.FrameType.TheVariants.{GlobalCommand, ClusterCommand, Reserved}
use Rattle.frame.specs.Header.{frame_type_of}
use Rattle.frame.specs.Answer.{within}
use Rattle.reporting.specs.Table.{capacity, holding}
use Rattle.reporting.specs.Carried.{table_in}
use Rattle.server.specs.Serve.{state, typed}
use borrow.Enum.Refused.{opened}
use Rattle.server.proofs.serve.serve_frame.Goals as goal

-- neither a global command nor a cluster command
is_reserved : (k : FrameType) → OneOf (1 ∷ 2 ∷ []) (tag_of frame-type.the_type k) → OneOf (0 ∷ 2 ∷ []) (tag_of frame-type.the_type k) → k ≡ Reserved
is_reserved GlobalCommand o u = absurd (miss (1 ∷ 2 ∷ []) 0 tt o)
is_reserved ClusterCommand o u = absurd (miss (0 ∷ 2 ∷ []) 1 tt u)
is_reserved Reserved o u = refl

pub returns-in_default-kind-clause-answered : goal.returns-in_default-kind-clause-answered
unfolding typed
returns-in_default-kind-clause-answered c =
    let told : (k : FrameType) → c.frame_type-kind.result ≡ k → typed 8 capacity c.args.store.now (holding (table_in c.args.table.now.bytes.now)) c.args.unicast c.args.request c.args.body.now (length c.args.reply.now) k ≡ typed 8 capacity c.args.store.now (holding (table_in c.args.table.now.bytes.now)) c.args.unicast c.args.request c.args.body.now (length c.args.reply.now) (frame_type_of c.args.request.frame_control.0) = λ k e. ap (typed 8 capacity c.args.store.now (holding (table_in c.args.table.now.bytes.now)) c.args.unicast c.args.request c.args.body.now (length c.args.reply.now)) (sym e ∙ c.frame_type-kind.ensures) in
    ap (within (λ u. state c.args.store.now (holding (table_in c.args.table.now.bytes.now)))) c.refuse.ensures ∙ told _ (is_reserved _ (opened c.in_default.in_default-own.keys2) (opened c.in_default-kind.in_default-kind-own.keys2))

pub returns-in_default-clause-answered : goal.returns-in_default-clause-answered
unfolding typed
returns-in_default-clause-answered c =
    let told : (k : FrameType) → c.frame_type-kind.result ≡ k → typed 8 capacity c.args.store.now (holding (table_in c.args.table.now.bytes.now)) c.args.unicast c.args.request c.args.body.now (length c.args.reply.now) k ≡ typed 8 capacity c.args.store.now (holding (table_in c.args.table.now.bytes.now)) c.args.unicast c.args.request c.args.body.now (length c.args.reply.now) (frame_type_of c.args.request.frame_control.0) = λ k e. ap (typed 8 capacity c.args.store.now (holding (table_in c.args.table.now.bytes.now)) c.args.unicast c.args.request c.args.body.now (length c.args.reply.now)) (sym e ∙ c.frame_type-kind.ensures) in
    ap (within (λ u. state c.args.store.now (holding (table_in c.args.table.now.bytes.now)))) c.default_response.ensures ∙ told _ c.in-ClusterCommand.is

pub returns-clause-answered : goal.returns-clause-answered
unfolding typed
returns-clause-answered c =
    let told : (k : FrameType) → c.frame_type-kind.result ≡ k → typed 8 capacity c.args.store.now (holding (table_in c.args.table.now.bytes.now)) c.args.unicast c.args.request c.args.body.now (length c.args.reply.now) k ≡ typed 8 capacity c.args.store.now (holding (table_in c.args.table.now.bytes.now)) c.args.unicast c.args.request c.args.body.now (length c.args.reply.now) (frame_type_of c.args.request.frame_control.0) = λ k e. ap (typed 8 capacity c.args.store.now (holding (table_in c.args.table.now.bytes.now)) c.args.unicast c.args.request c.args.body.now (length c.args.reply.now)) (sym e ∙ c.frame_type-kind.ensures) in
    c.global_command.ensures.answered ∙ told _ c.in-GlobalCommand.is
