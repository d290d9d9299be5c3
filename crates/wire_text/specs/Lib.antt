-- where a request to a backend goes
pub mod Destinations
-- pairs as a query, and a path with one
pub mod Queries
-- the bytes of a request
pub mod Messages
-- what is passed on
pub mod Passing
-- what holds of what is passed on
pub mod Laws
