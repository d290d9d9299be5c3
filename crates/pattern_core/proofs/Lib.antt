pub mod SearchLemmas
pub mod Crosses
pub mod Sent
