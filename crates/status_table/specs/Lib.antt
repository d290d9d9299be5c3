-- the tables of the patterns of a document
pub mod Keeping
-- the statuses that a pattern takes
pub mod Statuses
