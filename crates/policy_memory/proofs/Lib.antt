-- lists of keys, and what a cache makes of them
pub mod Keys
-- the laws
pub mod Lawful
-- what the memory recalls is what is remembered
pub mod Recalling
-- rows of flushes
pub mod Rows
