-- the book of a play
pub mod Sessions
