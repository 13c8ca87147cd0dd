-- The laws that this crate's proofs and its clients' cite, a file for an idea.
pub mod Ids  -- the ids of a request, and of one body behind another
pub mod Turns  -- the record for an id
pub mod Within  -- every reply fits its room, and is for the first ids of the request
pub mod Unique  -- no second answer fits
