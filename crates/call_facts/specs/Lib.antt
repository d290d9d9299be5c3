-- the gateway's own answers, by kind
pub mod Kinds
-- names and values
pub mod Pairs
-- the parts of a request's target
pub mod Target
