-- the name of a call
pub mod Names
-- what an authorizer is asked
pub mod Requests
-- what an exchange with an authorizer comes to
pub mod Outcomes
-- what the program's steps stand for
pub mod Views
-- what holds of the definitions
pub mod Laws
