-- keys by their values, beside their rows
pub mod Indexes
