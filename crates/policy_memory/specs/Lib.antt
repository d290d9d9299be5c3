-- how the memory stands for what happened
pub mod Kept
-- what holds of the definitions
pub mod Laws
-- when two names are the same, and of which stage a name is
pub mod Names
-- what is remembered, by all that happened
pub mod Remembered
