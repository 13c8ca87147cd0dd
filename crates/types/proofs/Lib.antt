-- What the proofs of several functions, and of other crates, cite.
pub mod Numbers  -- numbers over the width
pub mod Readings  -- what signed and unsigned readings say, and reading back what was written
pub mod Machine  -- signed numbers as the machine holds them
pub mod Finite  -- a rule over all codes, from one computed test
pub mod Sizes  -- the type table's arms: sizes and classes
pub mod Shapes  -- the type table's arms: forms
pub mod Widths  -- sizes by the low three bits, and against the Rust
pub mod Rules  -- rules of the type table
pub mod Values  -- the number of a value and of a change
pub mod Extents  -- the definitions of extents, step by step
pub mod Ends  -- a value ends within the list
pub mod Follows  -- a part and the whole: one induction for every way of comparing them
pub mod Stable  -- bytes behind or in front make no difference
pub mod Back  -- a value that ends within a part is the part's
pub mod Settled  -- some bytes behind settle any cut value
pub mod Worked  -- worked values
pub mod Unique  -- no second answer fits a contract, function after function
