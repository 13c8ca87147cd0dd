-- What the proofs of several functions cite.
pub mod Matches  -- bytes compared
pub mod Words  -- a text and its words
pub mod Digits  -- digits and their bytes
pub mod Says  -- what ours says to an input
pub mod Answers  -- the answers to a frame
pub mod Calls  -- the calls on a table
pub mod Served  -- a request with a table
pub mod Fields  -- a line and its fields
pub mod Counts  -- the count over a list
pub mod Worked  -- a list that computes
