-- What a reader must believe of this crate, a file for an idea.

-- definitions that decide an answer
pub mod Saved  -- the saved form of a reporting table
pub mod Lent  -- writing and reading it, on lent bytes
-- what is claimed of them
pub mod Claims
