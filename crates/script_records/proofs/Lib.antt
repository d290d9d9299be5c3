-- the first line of a text
pub mod Lines
-- posts that are spelled plainly
pub mod Spelled
