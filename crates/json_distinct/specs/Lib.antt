-- a number for each value, which values that are the same share
pub mod Codes
-- what is remembered of values
pub mod Seeing
-- when no two values are the same
pub mod Distinct
