pub mod Bad
pub mod Decimals
pub mod Finds
pub mod Scanning
pub mod TextRuns
pub mod Named
