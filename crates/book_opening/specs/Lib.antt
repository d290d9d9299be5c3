-- what a fault says of the tables
pub mod Faults
-- what is read of the rows
pub mod Ready
