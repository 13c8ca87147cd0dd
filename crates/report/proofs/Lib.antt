-- The laws that this crate's proofs and its clients' cite, a file for an idea.
pub mod Ids  -- one id of a report
pub mod Going  -- the loop over the ids of a report
pub mod Whole  -- a report: the store, the header, the list, its ids
-- lists in a row, going round
pub mod Lists
pub mod Counts  -- how many entries have such a key
pub mod Moves  -- one turn: what it leaves, and how far it comes
pub mod Fair  -- the turn is fair
pub mod Rows  -- consecutive turns of a longer history
pub mod Looks  -- a turn goes by the attribute's entry alone
pub mod Spacing  -- demand 3 with turns
pub mod Sweeps  -- the turn as two passes
pub mod Passes  -- one attribute, and the loop of a pass
pub mod Ended  -- the end of a turn, and the whole
pub mod Unique  -- no second answer fits
