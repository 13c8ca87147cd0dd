-- What the proofs of several functions cite.
pub mod Laid  -- digits laid into a buffer
pub mod Says  -- what is said of an answer and of an input
pub mod Worked  -- document 01's example computes
