-- fields, and what they stand for
pub mod Coding
-- columns of pairs, and what holds of them
pub mod Columns
-- numbers
pub mod Numbers
-- fields `name=value`
pub mod Pairs
-- how fields are written
pub mod Writing
