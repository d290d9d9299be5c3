-- which references come back
pub mod Led
-- the references of a template
pub mod Outputs
-- a model that is refused
pub mod Causes
-- the names of what is read of a list
pub mod Lists
-- what waits for the header of an authorizer
pub mod Waiting
