-- A global command by its number; any other frame type is none. Assumes nothing.
use mathlib.Core.Path.{◌≡◌, refl, sym, ap, ◌∙◌}
use mathlib.Core.Bool.{true, false}
use denote.Enum.Bare.{sameb}
use Rattle.frame.specs.contracts.header.FrameType as frame-type
use Rattle.frame.specs.declared.header.FrameType.{FrameType}
use Rattle.frame.specs.declared.header.FrameType.TheVariants.{GlobalCommand, ClusterCommand, Reserved}
use Rattle.frame.specs.Header.{is_global, frame_type_of}
use Rattle.server.proofs.unsupported_cluster.is_default_response.Goals as goal

-- the derived equality tells a global command from the other types
same_global : (t : FrameType) → sameb frame-type.the_type t GlobalCommand ≡ is_global t
same_global GlobalCommand = refl
same_global ClusterCommand = refl
same_global Reserved = refl

pub returns-then-eq : goal.returns-then-eq
returns-then-eq c =
    let kind : is_global (frame_type_of c.args.request.frame_control.0) ≡ true = ap is_global (sym c.frame_type.ensures) ∙ sym (same_global c.frame_type.result) ∙ sym c.eq.ensures ∙ c.if-eq.true in
    rw (kind, c.from.ensures) refl

pub returns-else-eq : goal.returns-else-eq
returns-else-eq c =
    let kind : is_global (frame_type_of c.args.request.frame_control.0) ≡ false = ap is_global (sym c.frame_type.ensures) ∙ sym (same_global c.frame_type.result) ∙ sym c.eq.ensures ∙ c.if-eq.false in
    c.if-eq.false ∙ rw kind refl
