-- the slash at the front of a path
pub mod Slashes
-- a uri with neither stage variables nor placeholders leads somewhere
pub mod Plain
-- what an exchange comes to, by its causes
pub mod Causes
-- what the definitions compute of the orders API
mod Worked
