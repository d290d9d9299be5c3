-- the fields of a plan
pub mod Fields
