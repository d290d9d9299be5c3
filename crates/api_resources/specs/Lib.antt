-- mappings
pub mod Mapped
-- response rules
pub mod Rules
-- integrations
pub mod Integrations
-- methods
pub mod Methods
-- resources
pub mod Resources
-- the tree of the resources' paths
pub mod Paths
-- what the methods of a document name
pub mod Named
-- what a method takes from its path, and where it goes
pub mod Taken
