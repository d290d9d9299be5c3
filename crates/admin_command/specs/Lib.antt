-- what a line asks for
pub mod Lines
-- what lines come to
pub mod Administering
-- what administering a store comes to
pub mod Ends
-- what giving a keeper back leaves
pub mod Giving
-- the law on lines
pub mod Laws
