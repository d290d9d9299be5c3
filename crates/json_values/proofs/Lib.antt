pub mod Seen
pub mod Opened
pub mod Plain
pub mod Pushing
pub mod Lookups
