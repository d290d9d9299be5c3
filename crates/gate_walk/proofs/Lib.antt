mod Asked
mod Causes
mod Doing
pub mod Drawing
mod Following
mod Once
pub mod Standing
pub mod Telling
pub mod Ways
