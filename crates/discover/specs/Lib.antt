-- What a reader must believe of this crate.

-- definitions that decide an answer, in the order to read them
pub mod Discover  -- Discover Attributes
-- what is claimed of them
pub mod Claims
-- what only inner functions say
pub mod Inside
