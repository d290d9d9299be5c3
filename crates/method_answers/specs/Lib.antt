-- a call behind its route
pub mod Calls
-- the gateway's own answers
pub mod Failing
-- what the outcome of an exchange is answered
pub mod Outcomes
-- methods that ask for a key
pub mod Keys
-- what an authorizer is asked about a call
pub mod Questions
-- what a request to an API that is a document comes to
pub mod Plans
-- the causes that answers name
pub mod Causes
-- what tells of an admission, and where one is asked for
pub mod Admitting
