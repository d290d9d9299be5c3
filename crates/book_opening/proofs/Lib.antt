-- rows of a key whose plans share a stage
pub mod Clashes
-- the keys by their values
pub mod Keyed
-- what is read of a source, and the stages of a column
pub mod Reading
-- the values of keys, in a set
pub mod Values
-- a walk over the rows of a table
pub mod Walks
