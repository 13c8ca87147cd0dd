-- What only inner functions say; nothing that a caller must believe.
pub mod Buffer  -- bytes put into the reply buffer
pub mod Passes  -- a pass over records
pub mod Shortened  -- a walk that answers record by record
pub mod Failures  -- failures put into the buffer
