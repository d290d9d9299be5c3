pub mod Asking
pub mod Doing
pub mod Running
pub mod Visiting
