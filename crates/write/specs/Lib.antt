-- What a reader must believe of this crate, a file for an idea.

-- definitions that decide an answer, in the order to read them
pub mod Request  -- the records of a write request
pub mod Reply  -- the failures that a reply lists
pub mod Write  -- Write Attributes, Undivided, No Response
-- what is claimed of them
pub mod Claims
-- what only inner functions say
pub mod Inside
