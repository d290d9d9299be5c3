-- what may cross threads
pub mod Sent
