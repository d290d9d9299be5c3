-- the values of the sources of a request's mappings
pub mod Values
-- the values of a uri's placeholders
pub mod PathValues
-- what is mapped into a request
pub mod Mapping
-- the headers of a request
pub mod Headers
-- the query of a request
pub mod Queries
-- what may be written into a request
pub mod Writing
-- a request with its destination
pub mod Wire
-- the requests that integrations send
pub mod Requests
