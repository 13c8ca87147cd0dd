-- What a reader must believe of this crate, a file for an idea.

-- definitions that decide an answer, in the order to read them
pub mod Report  -- the Report Attributes frame
pub mod Round  -- going round from an id, and as many as fit
pub mod Turn  -- the report turn
-- what is claimed of them
pub mod Claims
-- what only inner functions say
pub mod Inside
