-- Claims about the definitions, proved in proofs/, a file for an idea.
pub mod Words  -- each, one of, in a row
pub mod Turns  -- one turn, told as lists
pub mod History  -- turns in the history of a table
pub mod Fairness  -- the turn is fair
pub mod Demand3  -- demand 3 with turns
pub mod Unique  -- no second answer fits a contract
