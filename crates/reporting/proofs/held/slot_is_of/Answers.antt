-- The slot's first two numbers are the key's. Assumes nothing.
use Rattle.reporting.proofs.Lending.{key_first, key_not}
use Rattle.reporting.proofs.held.slot_is_of.Goals as goal

pub returns-then-attribute-key : goal.returns-then-attribute-key
returns-then-attribute-key c =
    let a = c.args in
    key_first a.bytes.now a.at a.key _ _ c.u16_in-cluster.ensures c.u16_in-attribute.ensures c.if-attribute-key.true

pub returns-else-attribute-key : goal.returns-else-attribute-key
returns-else-attribute-key c =
    let a = c.args in
    key_not a.bytes.now a.at a.key _ _ c.u16_in-cluster.ensures c.u16_in-attribute.ensures c.if-attribute-key.false
