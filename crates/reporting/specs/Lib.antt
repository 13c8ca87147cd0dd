-- What a reader must believe of this crate, a file for an idea.

-- definitions that decide an answer, in the order to read them
pub mod Entries  -- the entries as a list, and what each operation does to it
pub mod Due  -- when a report is due
pub mod Wish  -- what a configuration record asks for
pub mod Table  -- the table as a value: what its operations say and leave
pub mod Carried  -- the table as lent bytes
pub mod Lent  -- its operations on these bytes
-- what is claimed of them
pub mod Demand3  -- the promise on report times
pub mod Claims
-- what only inner functions say
pub mod Inside
