-- validators
pub mod Validators
-- authorizers
pub mod Authorizers
-- models
pub mod Models
-- templates of the gateway's own answers
pub mod Small
-- the gateway's own answers
pub mod Gateway
-- the nodes of a template
pub mod Nodes
-- the causes that the faults of schemas are told as
pub mod Causes
