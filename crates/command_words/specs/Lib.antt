-- what the words ask for
pub mod Commands
-- the words that stand in the table of commands
pub mod Table
-- the table of commands, as `clap` knows it
pub mod Grammar
-- what a parse gives
pub mod Reading
