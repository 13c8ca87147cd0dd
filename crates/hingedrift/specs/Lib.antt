-- What a reader must believe of this crate, a file for an idea.

-- definitions that decide an answer, in the order to read them
pub mod Tables  -- the reporting table through its bytes
pub mod Serving  -- the server, a number, a report frame and a turn
pub mod Saving  -- the saved form of a table
pub mod Reading  -- the readers' functions
-- what is claimed of them
pub mod Claims
