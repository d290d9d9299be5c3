-- the levels of several buckets, and which of them is spent
pub mod Buckets
-- the level of one of them over a history
pub mod Laws
