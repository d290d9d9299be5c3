-- what an exchange with a backend tells, and what it counts
pub mod Exchanges
-- what a backend in memory holds, and what an exchange changes of it
pub mod Script
