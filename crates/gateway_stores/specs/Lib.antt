-- what contracts see of the program's keeper
pub mod Keepers
-- why no keeper is lent
pub mod Starts
