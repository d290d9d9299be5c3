-- the best of the paths that match
pub mod Best
-- parts of a path
pub mod Parted
pub mod Least
-- what holds of routes
pub mod Routed
-- the tree of a definition's resources
pub mod Trees
