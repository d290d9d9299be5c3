-- a value that is looked for among others
pub mod Sought
-- the numbers of a range
pub mod Spans
-- the entries of a map, one after the other
pub mod Entries
