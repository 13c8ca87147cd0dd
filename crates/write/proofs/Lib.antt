-- What the proofs of several functions, and of other crates, cite.
pub mod Items  -- one record of a body: where it stands, and that its value is one whole value
pub mod Append  -- the records of one body and then another
pub mod Turns  -- one record done, and the loop that lists nothing
pub mod Undivided  -- the two passes of an undivided write
pub mod Kept  -- what the commands keep of a store
pub mod Judged  -- records judged over one store
pub mod Last  -- what records of which none fails leave
pub mod UndividedWays  -- the ways of an undivided write
pub mod Coded  -- of a header only the manufacturer code counts
pub mod Order  -- what each command does to a store, and two of them in either order
pub mod Before  -- the commands as document 01 has them
pub mod Unique  -- no second answer fits
