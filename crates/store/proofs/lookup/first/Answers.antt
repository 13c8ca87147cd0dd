-- Each field stands where the entry has it. Assumes nothing.
use Rattle.store.specs.Contents.{attribute_at}
use Rattle.store.proofs.lookup.first.Goals as goal

pub returns : goal.returns
unfolding attribute_at
returns c i =
    record {
      name = record { 0 = c.u16_at.ensures i };
      type_id = record { 0 = c.byte_at.ensures i };
      access = c.byte_at-2.ensures i;
      offset = c.u16_at-2.ensures i;
      room = c.u16_at-3.ensures i;
    }
