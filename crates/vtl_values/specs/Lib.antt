-- a code for values
pub mod Coded
-- each part of a value is less deep than the value
pub mod Falls
-- which values are of one kind, and what they hold
pub mod Kinds
-- lists and maps that are made, at most 64 deep
pub mod Making
-- what operators give
pub mod Operations
-- parts of a value: members, items, and what a loop goes over
pub mod Parts
-- where the keys of a map stand
pub mod Places
-- how values are printed
pub mod Printed
-- the numbers of a range
pub mod Ranges
-- which values count as true
pub mod Truth
-- values, as trees
pub mod Val
-- which tree a value of the program stands for
pub mod Vals
-- which tree a lent value stands for
pub mod Views
-- what stands after a call that has so much room
pub mod Within
