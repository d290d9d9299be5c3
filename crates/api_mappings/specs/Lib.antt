-- names
pub mod Names
-- the `uri` of a backend
pub mod Uris
-- a `uri` as it is written
pub mod Written
-- the targets and the sources of mappings
pub mod Mappings
