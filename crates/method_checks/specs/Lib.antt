-- the best of the paths that match
pub mod Best
-- what holds of routes and of what is missing
pub mod Laws
-- the message that names what is missing
pub mod Messages
-- which required parameters a request lacks
pub mod Missing
-- where a request goes
pub mod Routing
-- the segments of a path
pub mod Segments
-- the token that a request hands to an authorizer
pub mod Tokens
-- what a request fails by
pub mod Validating
