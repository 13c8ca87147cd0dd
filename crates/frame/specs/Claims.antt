-- Claims about the definitions, proved in proofs/, a file for an idea.
pub mod Failing  -- the failures of records, each by its status
pub mod Troubles  -- what numbers 4 and 5 leave
pub mod Headers  -- what the answers about a header tell
pub mod Unique  -- no second answer fits a contract
