-- counts of what has failed
pub mod Counting
-- stores by their names, and the store of a keeper that is given back
pub mod Naming
-- what an outside in memory tells after a call
pub mod Telling
