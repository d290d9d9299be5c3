-- lines, fields and their coding
pub mod Coding
-- the definitions that a script puts
pub mod Definitions
-- the records of a script
pub mod Records
