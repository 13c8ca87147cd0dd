-- Claims about the definitions, proved in proofs/, a file for an idea.
pub mod Sendable  -- the records that a reply can hold
pub mod Back  -- what was written is read back, and nothing else is accepted
pub mod Served  -- reading what was served gives the records that were made
pub mod Numbers  -- the number that is read is the number in the store
pub mod Bench  -- the bench replies, read, as one list under one claim
pub mod Cases  -- the number and the values of each answer
pub mod Unique  -- no second answer fits a contract
