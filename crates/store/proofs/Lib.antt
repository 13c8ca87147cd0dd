-- What the proofs of several functions, and of other crates, cite.
pub mod Contents  -- the attributes as a list, and the one of a name
pub mod Scan  -- the scan for a name, one attribute after the other
pub mod Layouts  -- when bytes are a store, condition by condition
pub mod Placed  -- where the attributes of a store lie
pub mod Fitted  -- a value laid into its room, as far as the store goes
pub mod Stored  -- what a written value leaves
pub mod Writes  -- the four checks, and what a write leaves
pub mod Commute  -- two writes in either order
pub mod Tells  -- the number of a value
pub mod Unique  -- no second answer fits a contract, function after function
