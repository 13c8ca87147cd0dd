-- Claims about the definitions, proved in proofs/, a file for an idea.
pub mod Stays  -- a store stays a store
pub mod Unique  -- no second answer fits a contract
