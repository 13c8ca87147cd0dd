-- Laws, a file for an idea. The proofs of the functions stand in the directories, under the functions' names.
-- from what the functions of crate `reporting` ensure to what the functions towards C leave
pub mod Bridge
-- no second answer fits a contract
pub mod Unique
-- entries that fit a table's bytes, after events
pub mod Kept
-- demand 3 of what the functions left
pub mod Logged
-- report turns in what the functions left
pub mod Turned
-- a log that meets its suppositions
pub mod LogExample
-- one with report turns
pub mod TurnLog
-- one with a power cut, and demand 3 of the table read in after it
pub mod PowerCut
-- the number of a value, from the store to the head-end
pub mod Through
-- what every call of the server's functions leaves
pub mod Leaves
-- the saved form: what its calls leave, and both ways
pub mod RoundTrip
-- an undivided write is done whole or not at all
pub mod AllOrNothing
-- a list cut in two, and two lists in either order
pub mod Split
