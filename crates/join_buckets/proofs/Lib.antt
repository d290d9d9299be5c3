-- the level of one bucket through all admissions of its key
pub mod Kept
-- the levels, one by one
pub mod Each
