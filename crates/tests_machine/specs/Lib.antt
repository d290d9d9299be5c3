-- a keeper of which no call fails
pub mod Passing
