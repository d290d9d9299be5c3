mod Seated
mod Histories
pub mod Sent
