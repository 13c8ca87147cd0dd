-- Claims about the definitions, proved in proofs/, a file for an idea.
pub mod History  -- the events of a frame
pub mod Leads  -- a frame is its events
pub mod Limits  -- a frame under two limits
pub mod Marks  -- the mark that a request sets
pub mod Unique  -- no second answer fits a contract
