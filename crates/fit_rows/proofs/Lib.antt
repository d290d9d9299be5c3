-- tables that a book starts from have rows that may stand, and these go on to
pub mod Fitting
-- what commands and calls write may stand
pub mod FitsOn
-- and so may what stands after an event
pub mod FitsAfter
-- and after a history
mod Holding
