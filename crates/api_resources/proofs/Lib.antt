-- the first fault of the resources' paths
pub mod Pathed
-- what a method names is defined
pub mod Given
-- what a method keeps of what it reads
pub mod Kept
-- the methods of resources are those of the document
pub mod Followed
