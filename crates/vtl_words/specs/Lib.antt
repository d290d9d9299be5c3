-- operators, words and faults
pub mod Views
-- what stands at the front
pub mod Fronts
-- what the scan for macros meets
pub mod Scans
-- names by their bytes
pub mod Names
