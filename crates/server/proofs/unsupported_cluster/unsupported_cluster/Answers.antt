-- Each way of the responder, in its order. Assumes nothing.
use mathlib.Core.Path.{sym, ◌∙◌}
use Rattle.server.proofs.Listed.{respond_served, respond_short, respond_never, respond_sent}
use Rattle.server.proofs.unsupported_cluster.unsupported_cluster.Goals as goal

pub returns-then-is_served : goal.returns-then-is_served
returns-then-is_served c = c.refuse.ensures ∙ respond_served _ _ _ _ _ (sym c.is_served.ensures ∙ c.if-is_served.true)

pub returns-in_default : goal.returns-in_default
returns-in_default c =
    c.refuse-in_default.ensures
    ∙ respond_short _ _ _ _ _ (sym c.is_served.ensures ∙ c.if-is_served.false) (sym c.read_header.ensures ∙ c.in_default.is)

pub returns-then-is_default_response : goal.returns-then-is_default_response
returns-then-is_default_response c =
    c.refuse-then-is_default_response.ensures
    ∙ respond_never _ _ _ _ _ (sym c.is_served.ensures ∙ c.if-is_served.false) c.in-Some.h (sym c.read_header.ensures ∙ c.in-Some.is) (sym c.is_default_response.ensures ∙ c.if-is_default_response.true)

pub returns : goal.returns
returns c =
    c.default_response.ensures
    ∙ respond_sent _ _ _ _ _ (sym c.is_served.ensures ∙ c.if-is_served.false) c.in-Some.h (sym c.read_header.ensures ∙ c.in-Some.is) (sym c.is_default_response.ensures ∙ c.if-is_default_response.false)
