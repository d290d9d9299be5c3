-- the calls of a script: a connection and its lines
pub mod Calls
-- what is written of a text, and what is kept to be written
pub mod Gathered
-- what a script does, and what it prints
pub mod Play
-- the lines that are printed
pub mod Printed
-- why a play stops before its end
pub mod Stops
