-- What the proofs of this crate, and of others, cite.
pub mod Worked  -- forms that compute
pub mod Entries  -- whether entries are written, one after the other
pub mod Places  -- a row and a body at their places
pub mod Rows  -- the rows and bodies that the loops have written
pub mod Forms  -- the rows that the loops have read, and the table that they fill
pub mod Lending  -- what writing and reading say
pub mod RoundTrip  -- a table has one saved form
pub mod Limits  -- forms under two limits
pub mod Widths  -- the entries of a form fit a table's bytes
pub mod Demand3  -- demand 3 from a table just read in
pub mod Unique  -- no second answer fits a contract
