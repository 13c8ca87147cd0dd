-- Laws, a file for an idea. The proofs of the functions stand in the directories, under the functions' names.
pub mod Signed
pub mod Due
-- which numbers compare otherwise without their sign
pub mod Unsigned
pub mod Places
pub mod Slots
pub mod Others
pub mod Runs
-- entries read in from a saved form, as events
pub mod Restored
pub mod Histories
-- the same answers under two limits
pub mod Limits
pub mod Accepted
pub mod Follows
pub mod Promise
pub mod Sentences
pub mod Compiled
pub mod Example
pub mod LogExample
pub mod Unique
-- numbers and rows of numbers as bytes, over the widths
pub mod Carriage
-- an entry as the numbers of its slot
pub mod CarriageEntry
-- the table as bytes: the round trips
pub mod CarriageTable
-- a slot at its place, as the code reads and writes it
pub mod CarriageCode
-- the loops over the slots, and the tests before them
pub mod CarriageLoops
-- one slot of a table's bytes written over
pub mod Patches
-- entries that fit a table's bytes, after each operation
pub mod Kept
-- the operations on the table's bytes
pub mod Lending
-- what the Booleans tell
pub mod Told
-- examples that compute
pub mod CarriageWorked
