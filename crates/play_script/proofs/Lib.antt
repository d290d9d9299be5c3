-- how a play goes on, line by line
pub mod Playing
