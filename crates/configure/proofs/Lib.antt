-- The laws that this crate's proofs and its clients' cite, a file for an idea.
pub mod Widths  -- the width of a change
-- Configure Reporting
pub mod Items  -- one record of a request
pub mod Settings  -- a deed, and what it comes to in the table
pub mod Turns  -- one record done, the loop, and the whole command
pub mod History  -- a frame is its events
pub mod Append  -- the records of one request and then another
pub mod Coded  -- of a header only the manufacturer code counts
pub mod Limits  -- a frame under two limits
pub mod Marks  -- which requests the mark concerns
pub mod WorkedConfigure  -- frames that compute
-- Read Reporting Configuration
pub mod Asked  -- what a request asks for
pub mod Encodings  -- the bytes of a configuration
pub mod Answers  -- one that is asked
pub mod Configurations  -- the command as a whole
pub mod WorkedConfiguration  -- a frame that computes
-- both
pub mod Unique  -- no second answer
