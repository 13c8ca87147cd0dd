-- What a reader must believe of this crate, a file for an idea.

-- definitions that decide an answer, in the order to read them
pub mod Ids  -- the type table
pub mod Number  -- numbers in bytes
pub mod Value  -- the number of a value, and of a change
pub mod Extent  -- where a value ends
-- what is claimed of them
pub mod Claims
-- what only inner functions say
pub mod Inside
