pub mod Paths
pub mod Rounds
