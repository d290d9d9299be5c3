-- the terms of plans
pub mod Terms
-- what a call and a grant make of a row
pub mod Tallies
-- what befalls a row, and what its numbers are by all that befell it
pub mod Deeds
-- what the numbers that are kept show
pub mod Laws
-- the numbers of rows
pub mod Rows
