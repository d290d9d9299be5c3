-- what a source and a sink in memory hold, and what their calls do
pub mod Feed
-- lists in which something may stand twice
pub mod Lists
-- what names may be, and when two are the same
pub mod Names
-- when a count of faults rose, and what a refused call says of it
pub mod Outside
-- the random words
pub mod Random
-- what writing some of the bytes comes to
pub mod Whole
