-- the paths of a list with no fault
pub mod Apart
-- what the faults of a path say of it
pub mod Causes
-- paths that clash
pub mod Clashing
-- what stands at the ends of a text, and what texts are read as
pub mod Cuts
-- where a comparison of two paths ends
pub mod Ends
-- what the faults of paths come to
pub mod FaultLemmas
-- what the first parts of a path take
pub mod Fronts
-- nodes that are added one by one
pub mod Grown
-- texts that are joined one by one
pub mod Joined
-- the order in which paths are tried
pub mod Ordered
-- the search for the best path over the nodes
pub mod Sought
-- a path is read as the parts that it is written with
pub mod Spelled
-- what the parts of a path take
pub mod Taken
-- the order in which paths are tried, where both match
pub mod Tried
-- paths that match the same segments with the same ranks
pub mod Unique
-- each parameter of a path has a value
pub mod Values
