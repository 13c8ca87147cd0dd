-- Claims about the definitions, proved in proofs/, a file for an idea.
pub mod Unique  -- no second answer fits a contract
