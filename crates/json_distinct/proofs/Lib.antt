-- values that are the same have one code
pub mod Alike
-- names that stand once
pub mod Named
-- values that were looked at
pub mod Sightings
-- a list of values from the last on
pub mod Behind
