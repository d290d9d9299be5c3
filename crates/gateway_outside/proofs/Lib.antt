-- before a line is written
pub mod Announced
