-- Claims about the definitions, proved in proofs/, a file for an idea.
pub mod RoundTrip  -- a table has one saved form
pub mod Limits  -- forms under two limits
pub mod Demand3  -- demand 3 from a table just read in
pub mod Unique  -- no second answer fits a contract
