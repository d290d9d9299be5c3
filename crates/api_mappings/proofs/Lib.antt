-- what stands at the front of a text
pub mod Cuts
-- the pieces of a text
pub mod Braces
-- the values of a `uri`
pub mod Values
