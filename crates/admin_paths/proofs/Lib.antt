-- segments without a slash
mod Segments
-- how rows are searched, by segments
mod Steps
-- rows behind a parameter
mod Behind
-- how a router of the table searches
mod Search
-- a path is found by its literals
pub mod Found
