-- The laws that this crate's proofs and its clients' cite, a file for an idea.
-- bytes laid over a buffer, a put by its answer, and the reply that a buffer shows
pub mod Buffer
-- a code tells its command, status or refusal
pub mod Codes
-- what a caller sees tells the answer, the buffer and the state
pub mod Outcome
-- the two ways of a header, and what lies behind it
pub mod Headers
-- examples that compute
pub mod Worked
-- records one after the other, and walks over them
pub mod Walks
-- the records of a reply as bytes, put one behind the other
pub mod Encoded
-- two runs put one behind the other, or neither
pub mod Both
-- records that end at a known place
pub mod Sized
-- a reply that lists records as long as they fit: the loop, the header, the room, and which records
pub mod Shortened
-- failures listed behind a head, and what is answered to a pass
pub mod Listings
-- a pass over the records: one record, the loop, the whole command
pub mod Passes
-- the state that a command leaves
pub mod States
-- a pass in which a record's status is the same at every moment
pub mod Failing
-- a list cut in two: where the whole is not refused by 5, no part is stopped
pub mod Split
-- what a pass over records that can all be read comes to; where none of them fails; which trouble counts
pub mod Halts
pub mod NoneFails
pub mod Troubles
-- no second answer fits a contract, function after function
pub mod Unique
