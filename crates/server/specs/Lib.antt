-- What a reader must believe of this crate, a file for an idea.

-- definitions that decide an answer, in the order to read them
pub mod DefaultResponse  -- the Default Response
pub mod Serve  -- a request served: the order of refusals, and the commands
pub mod Lent  -- the same over bytes that carry the table
pub mod UnsupportedCluster  -- the responder for clusters that are not served
-- what is claimed of them
pub mod Claims
-- what only inner functions say
pub mod Inside
