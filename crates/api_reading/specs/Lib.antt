-- the forms of values
pub mod Values
-- patterns and templates
pub mod Texts
