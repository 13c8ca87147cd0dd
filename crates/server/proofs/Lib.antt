-- The laws that this crate's proofs and its clients' cite, a file for an idea.
pub mod Defaults  -- the ways of a Default Response
pub mod Listed  -- a cluster among those that are served, and the ways of the responder
pub mod Commands  -- the commands by their tags, and those that need no table
pub mod Served  -- the checks one by one, over bytes and over a value
pub mod Cases  -- one case split for each of the server's definitions
pub mod Sees  -- what a command sees of a request's header
pub mod Indifferent  -- what does not affect an answer
pub mod Shapes  -- the shape of every command's outcome
pub mod Says  -- a call replies or refuses, and its reply buffer is left so
pub mod Refusals  -- what every answer leaves
pub mod Elsewhere  -- what the responder and a report leave
pub mod TurnsLeft  -- what a report turn leaves
pub mod Starting  -- how every reply starts
pub mod Chains  -- a chain of replies ends
pub mod ChainExample  -- chains over store T, computed
pub mod Stays  -- a store stays a store
pub mod Heard  -- a frame reaches its command, or not
pub mod Troubles  -- which trouble counts in a write, and in a configure request
pub mod Undivided  -- and in an undivided write
pub mod AllOrNothing  -- an undivided write is done whole or not at all
pub mod Scene  -- a scene over store T, computed
pub mod Called  -- calls over a store of the cluster and a table
pub mod Split  -- a list cut in two
pub mod Order  -- two lists in either order
pub mod SplitExample  -- where these laws do not hold, computed
pub mod WorkedTroubles  -- frames that meet what is supposed there of writes, computed
pub mod WorkedConfigureTroubles  -- and of configure requests
pub mod Unique  -- no second answer fits
pub mod Histories  -- a request is its events
pub mod Frames  -- demand 3 with frames
pub mod Accepting  -- a record that the reply does not fail is configured
pub mod Turns  -- report turns among requests and direct calls
pub mod Bytes  -- bytes, by a test
pub mod TurnExample  -- turns over store T, computed
pub mod WorkedFrames  -- a served history that meets its suppositions
pub mod Logged  -- demand 3 of what the code answered
pub mod LogExample  -- a log that meets its suppositions
pub mod Fitting  -- what a request configures is within the widths of a table's bytes
pub mod Starred  -- the starred bench frames
-- requests and direct calls under two limits
pub mod Limits
