-- what is never passed on
pub mod Passed
-- the numbers of ports
mod Ports
-- bytes behind bytes
mod Lines
