-- Claims about the definitions, proved in proofs/, a file for an idea.
pub mod Undivided  -- the one check, and the two passes of an undivided write
pub mod Last  -- what records of which none fails leave
pub mod Before  -- the commands as document 01 has them, and what stayed
pub mod Unique  -- no second answer fits a contract
