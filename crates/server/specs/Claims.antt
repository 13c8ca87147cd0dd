-- Claims about the definitions, proved in proofs/, a file for an idea.
pub mod Asks  -- what a frame asks for
pub mod Left  -- what every answer leaves
pub mod Troubles  -- what numbers 4 and 5 leave of a list
pub mod AllOrNothing  -- an undivided write is done whole or not at all
pub mod Scene  -- a scene over store T, computed
pub mod Split  -- a list cut in two, and two lists in either order
pub mod SplitExample  -- where these laws do not hold, computed
pub mod Starts  -- how every reply starts
pub mod Chain  -- a chain of replies ends
pub mod ChainExample  -- chains over store T, computed
pub mod Indifferent  -- what does not affect an answer
pub mod WithoutTable  -- frames that have nothing to do with the table
pub mod Bench  -- the starred bench frames, as one list under one claim
pub mod History  -- requests, direct calls and report turns, as the events of a reporting table
pub mod Demand3  -- demand 3 with frames
pub mod Accepted  -- what a reply tells of a configuration
pub mod Log  -- what the code answered, and demand 3 of it
pub mod ServedHistory  -- a history that meets what demand 3 supposes
pub mod LogExample  -- a log that meets what demand 3 of the code supposes
pub mod Turns  -- report turns among requests and direct calls
pub mod TurnExample  -- turns over store T, computed
pub mod Limits  -- the same under two limits
pub mod Unique  -- no second answer fits a contract
