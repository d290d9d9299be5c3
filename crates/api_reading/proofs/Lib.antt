-- the items of a list, and the members of an object
pub mod Listed
-- what is read as a template
pub mod Templates
-- the members of an object, by their names
pub mod Entries
