-- the answers of the statements that read a table, and the rows that they are
pub mod Answers
-- how the rows of the tables stand in the columns of the file
pub mod Columns
-- what a call makes of the connection, and of the changes that are owed
pub mod Links
-- what contracts see of a keeper over a file
pub mod Stands
-- what a change makes of the file
pub mod Steps
-- the texts of the statements
pub mod Texts
-- what undoes the change of a row
pub mod Undos
-- which version a store is of
pub mod Version
