-- Claims about the definitions, proved in proofs/, a file for an idea.
pub mod Left  -- what every call of these leaves
pub mod AllOrNothing  -- an undivided write is done whole or not at all
pub mod Split  -- a list cut in two, and two lists in either order
pub mod Log  -- what the functions left, and demand 3 of it
pub mod Turns  -- report turns in what the functions left
pub mod LogExample  -- a log that meets what demand 3 supposes
pub mod TurnLog  -- a log with report turns, computed
pub mod PowerCut  -- a table saved, a power cut, and demand 3 of the table read in
pub mod RoundTrip  -- a table saved and restored, a form restored and saved
pub mod Numbers  -- the number of a value, from the store to the head-end
pub mod Unique  -- no second answer fits a contract
