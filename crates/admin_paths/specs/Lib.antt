-- the table of paths
pub mod Paths
-- when a path of the table is found
pub mod Found
-- the rows of a router of the table
pub mod Router
