-- which paths may not stand beside those before them
pub mod Faults
-- what holds of paths, of their faults, and of the best
pub mod Laws
-- what the parts of a path take, and which path is best
pub mod Matching
-- how the paths of a tree lie in its nodes
pub mod Nodes
-- the order in which the paths of a tree are tried
pub mod Order
-- the parameters of a path, by their names
pub mod Parameters
-- how a path is read as its parts
pub mod Reading
-- how parts are compared, and which parts clash
pub mod Sharing
-- how a path is spelled
pub mod Spelling
