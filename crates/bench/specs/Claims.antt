-- Claims about the definitions, proved in proofs/, a file for an idea.
pub mod Frame1  -- document 01's example
