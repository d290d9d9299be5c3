-- what is always true of a book
pub mod Books
-- changes that are made ready
pub mod Changes
-- what a keeper shows after an event
pub mod Keeps
-- the values of keys, while one is put
pub mod Naming
-- what stands
pub mod Standing
-- how a book starts over a keeper
pub mod Starts
