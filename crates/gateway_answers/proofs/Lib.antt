-- the one cause of a gateway response
pub mod Causes
