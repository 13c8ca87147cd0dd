-- What a reader must believe of the program, a file for an idea.
pub mod Bytes  -- when bytes are the same
pub mod Line  -- a text as words, and words as bytes
pub mod Ours  -- what ours says to the input of each kind
pub mod Names  -- of the types that have a name
pub mod Methods  -- of calls on a table
pub mod Commands  -- of a whole frame
pub mod Requests  -- of a request with a table
pub mod Verdict  -- what is to be said of a line
pub mod Tally  -- the count over a list
pub mod Inside  -- what only inner functions say
