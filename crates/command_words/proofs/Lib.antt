-- what `clap` reads in the words of each row
mod Rows
-- the words in the table are those that ask for a command
mod Asked
-- a command has its words alone
mod Alone
