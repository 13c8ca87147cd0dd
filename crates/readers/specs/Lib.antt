-- What a reader must believe of this crate, a file for an idea.

-- definitions that decide an answer, in the order to read them
pub mod Reading  -- a frame that is read, its body and its records
pub mod Layout  -- how long a record is
pub mod Replies  -- each reply
pub mod Values  -- where a value lies, and its number
pub mod Answers  -- what the code's answers say
pub mod Told  -- the number and the values that are told
-- what is claimed of them
pub mod Claims
-- what only inner functions say
pub mod Inside
