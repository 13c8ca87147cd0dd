-- What a reader must believe of the program, a file for an idea.

-- definitions that decide an answer, in the order to read them
pub mod Bench  -- what is written for what is read
-- what is claimed of them
pub mod Claims
