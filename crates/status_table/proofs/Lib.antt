-- one table more among those of a document
pub mod Kept
-- one status more that a pattern was tried on
pub mod Tried
