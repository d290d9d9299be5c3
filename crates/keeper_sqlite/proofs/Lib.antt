-- rows of an answer that are put one by one
pub mod Putting
-- changes of the file, one after another
pub mod Steps
-- the values of a row, as a statement takes them
pub mod Bound
-- the connection to the file, from one call to the next
pub mod Links
-- what may cross threads
pub mod Sent
