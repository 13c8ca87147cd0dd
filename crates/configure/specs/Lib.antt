-- What a reader must believe of this crate, a file for an idea.

-- definitions that decide an answer, in the order to read them
pub mod Request  -- the records of both requests
pub mod Configure  -- Configure Reporting
pub mod Configuration  -- Read Reporting Configuration
-- what is claimed of them
pub mod Claims
-- what only inner functions say
pub mod Inside
