pub mod Asked
pub mod Inputs
pub mod ByCommand
pub mod Scripts
pub mod Admins
pub mod Loads
mod OneOutcome
