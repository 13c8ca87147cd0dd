-- Claims about the definitions, proved in proofs/, a file for an idea.
pub mod Readings  -- what readings with and without a sign say
pub mod Settled  -- what the answers about a value's end mean when bytes come behind
pub mod Widths  -- sizes by the low three bits, and all of them against the Rust
pub mod Unique  -- no second answer fits a contract
