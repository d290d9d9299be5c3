-- what a port in memory holds, and what a look changes of it
pub mod Docks
-- what contracts see of connections and of a lane
pub mod Facts
-- what a port lends and takes back
pub mod Lending
