-- which texts are patterns, and where they have a match
pub mod Search
