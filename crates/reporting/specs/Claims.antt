-- Claims about the definitions, proved in proofs/, a file for an idea.
pub mod Events  -- what happens to a table, as events
pub mod Log  -- what the code answered, and demand 3 of it
pub mod LogExample  -- a log that meets what demand 3 supposes
pub mod Sentences  -- document 01's sentences on the table, each a claim
pub mod RoundTrip  -- table to bytes and back, and bytes to table and back
pub mod Unsigned  -- which numbers compare otherwise without their sign
pub mod Limits  -- the same answers under two limits
pub mod Told  -- the number of each answer that is a Boolean
pub mod Unique  -- no second answer fits a contract
