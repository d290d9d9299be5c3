-- which calls are taken to a canary, and with which variables
pub mod Canaries
