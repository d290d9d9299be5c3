-- how large a number is
pub mod Amounts
-- when two values are the same
pub mod Same
-- the parts of a value, as lists
pub mod Parts
-- which trees the program's values stand for
pub mod Values
