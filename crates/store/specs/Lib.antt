-- What a reader must believe of this crate, a file for an idea.

-- definitions that decide an answer, in the order to read them
pub mod Contents  -- the attributes as a list, and lookup
pub mod Layout  -- when bytes are a store
pub mod Value  -- a value read, its number, and a value written
pub mod Write  -- the four checks of a write
-- what is claimed of them
pub mod Claims
-- what only inner functions say
pub mod Inside
