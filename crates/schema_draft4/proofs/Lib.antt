pub mod Rests
pub mod Targets
pub mod Grown
pub mod Parted
pub mod Linked
pub mod Back
pub mod Straight
pub mod Sent
