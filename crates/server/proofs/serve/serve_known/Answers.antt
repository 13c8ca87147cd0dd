-- Each check by its law, and then the frame. Assumes nothing.
use Rattle.std.specs.Prelude.{None, Some}
use Rattle.std.proofs.Common.{rules}
use mathlib.Core.Path.{◌≡◌, sym, ap, ◌∙◌, subst}
use mathlib.Core.Bool.{true}
use mathlib.Core.List.{List}
use Prim.Native.Nat.{ℕ, ◌-◌, ◌≤◌}
use native.Mathlib.Omega.{arith}
use lib.ListN.{length, drop, length-drop}
use lib.Seq.{take_all}
use Rattle.frame.specs.Header.{frame_type_of, header_of}
use Rattle.frame.specs.Answer.{within}
use Rattle.frame.proofs.Headers.{header_body}
use Rattle.store.specs.Layout.{is_store}
use Rattle.reporting.specs.Table.{capacity, holding}
use Rattle.reporting.specs.Carried.{table_in}
use Rattle.server.specs.Serve.{state, by_header, typed}
use Rattle.server.specs.Inside.{OverBytes}
use Rattle.server.proofs.Served.{serve_other, serve_read, over_no_store, over_no_table, over_table}
use Rattle.server.proofs.serve.serve_known.Goals as goal

pub returns-then-not-is_store : goal.returns-then-not-is_store
returns-then-not-is_store c =
    let g = c.args in
    over_no_store g.store.now g.table.now g.cluster.0 g.unicast g.request.now (length g.reply.now) g.known c.refuse.result _
    (sym c.is_store.ensures ∙ c.if-not-is_store.true)
    c.requires
    c.refuse.ensures

pub returns-then-not-known : goal.returns-then-not-known
returns-then-not-known c =
    let is_one : is_store 8 c.args.store.now ≡ true = sym c.is_store.ensures ∙ c.if-not-is_store.false in
    let g = c.args in
    over_no_table g.store.now g.table.now g.cluster.0 g.unicast g.request.now (length g.reply.now) g.known c.refuse-then-not-known.result _ is_one (c.if-not-known.true) c.refuse-then-not-known.ensures

pub returns-then-own-cluster : goal.returns-then-own-cluster
returns-then-own-cluster c =
    let is_known : c.args.known ≡ true = c.if-not-known.false in
    let is_one : is_store 8 c.args.store.now ≡ true = sym c.is_store.ensures ∙ c.if-not-is_store.false in
    let g = c.args in
    over_table g.store.now g.table.now g.cluster.0 g.unicast g.request.now (length g.reply.now) g.known c.refuse-then-own-cluster.result _ is_known g.store.now g.table.now (c.requires is_known)
    (ap (within (λ u. state g.store.now (holding (table_in g.table.now)))) c.refuse-then-own-cluster.ensures
    ∙ serve_other g.store.now (table_in g.table.now) g.cluster.0 g.unicast g.request.now (length g.reply.now) is_one _ c.cluster_of-own.ensures c.if-own-cluster.true)

pub returns-in_default : goal.returns-in_default
unfolding by_header
returns-in_default c =
    let is_known : c.args.known ≡ true = c.if-not-known.false in
    let is_one : is_store 8 c.args.store.now ≡ true = sym c.is_store.ensures ∙ c.if-not-is_store.false in
    let g = c.args in
    over_table g.store.now g.table.now g.cluster.0 g.unicast g.request.now (length g.reply.now) g.known c.refuse-in_default.result _ is_known g.store.now g.table.now (c.requires is_known)
    (ap (within (λ u. state g.store.now (holding (table_in g.table.now)))) c.refuse-in_default.ensures
    ∙ serve_read g.store.now (table_in g.table.now) g.cluster.0 g.unicast g.request.now (length g.reply.now) is_one _ c.cluster_of-own.ensures c.if-own-cluster.false None (sym c.in_default.is ∙ c.read_header.ensures))

pub slice_bounds-serve_frame-count : goal.slice_bounds-serve_frame-count
slice_bounds-serve_frame-count c =
    let header : header_of c.args.request.now ≡ Some c.in-Some.h = sym c.read_header.ensures ∙ c.in-Some.is in
    let inside : c.in-Some.h.body ≤ length c.args.request.now = (header_body c.args.request.now c.in-Some.h header).0 in
    omega (arith, inside)

pub slice_bounds-serve_frame-start : goal.slice_bounds-serve_frame-start
slice_bounds-serve_frame-start c =
    let header : header_of c.args.request.now ≡ Some c.in-Some.h = sym c.read_header.ensures ∙ c.in-Some.is in
    let inside : c.in-Some.h.body ≤ length c.args.request.now = (header_body c.args.request.now c.in-Some.h header).0 in
    omega (arith, inside)

pub invariant_of-held : goal.invariant_of-held
invariant_of-held c =
    let is_known : c.args.known ≡ true = c.if-not-known.false in
    record { whole = c.requires is_known }

pub returns : goal.returns
unfolding by_header
returns c =
    let is_known : c.args.known ≡ true = c.if-not-known.false in
    let is_one : is_store 8 c.args.store.now ≡ true = sym c.is_store.ensures ∙ c.if-not-is_store.false in
    let header : header_of c.args.request.now ≡ Some c.in-Some.h = sym c.read_header.ensures ∙ c.in-Some.is in
    let left : ◌≡◌ {A = List ℕ} _ c.serve_frame.new.table.bytes.now = search rules in
    subst (λ (bs : List ℕ). OverBytes c.args.known c.args.store.now c.args.table.now c.args.cluster.0 c.args.unicast c.args.request.now (length c.args.reply.now) c.serve_frame.result c.serve_frame.new.reply c.serve_frame.new.store bs) (sym left)
    (over_table c.args.store.now c.args.table.now c.args.cluster.0 c.args.unicast c.args.request.now (length c.args.reply.now) c.args.known c.serve_frame.result _ is_known _ _ c.serve_frame.new.table.whole
    (c.serve_frame.ensures.answered
    ∙ ap (λ (l : List ℕ). typed 8 capacity c.args.store.now (holding (table_in c.args.table.now)) c.args.unicast c.in-Some.h l (length c.args.reply.now) (frame_type_of c.in-Some.h.frame_control.0))
    (take_all (length c.args.request.now - c.in-Some.h.body) (drop c.in-Some.h.body c.args.request.now) (simp length-drop (omega arith)))
    ∙ serve_read c.args.store.now (table_in c.args.table.now) c.args.cluster.0 c.args.unicast c.args.request.now (length c.args.reply.now) is_one _ c.cluster_of-own.ensures c.if-own-cluster.false (Some c.in-Some.h) (sym header)))
