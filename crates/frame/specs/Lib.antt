-- What a reader must believe of this crate, a file for an idea.

-- definitions that decide an answer, in the order to read them
pub mod CommandIdentifier  -- the codes of the commands
pub mod Status  -- the codes of the statuses
pub mod Reply  -- a reply, then zeros
pub mod Answer  -- what a call says back
pub mod Header  -- a frame's header, and a reply's
pub mod Walk  -- records one after the other, and a walk over them
pub mod Sized  -- records of a known size
pub mod Encoded  -- records as bytes
pub mod Shortened  -- a reply of as many records as fit
pub mod Failures  -- a reply that lists the failures
-- what is claimed of them
pub mod Claims
-- what only inner functions say
pub mod Inside
