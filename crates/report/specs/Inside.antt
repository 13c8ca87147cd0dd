-- What only inner functions say; nothing that a caller must believe.
pub mod Report  -- the report frame
pub mod Loop  -- a report turn as two passes
pub mod Turn  -- the functions of a report turn
