-- The laws that this crate's proofs and its clients' cite, a file for an idea.
pub mod Choice  -- which attributes are listed, and when these are all
pub mod Going  -- the loop that puts the records
pub mod Flagged  -- the complete byte and the records behind it
pub mod Whole  -- the body, the header, and the list
pub mod Unique  -- no second answer fits
