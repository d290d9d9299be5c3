-- the scan of a text against a pattern
pub mod Scans
-- the items of a list, and the members of an object
pub mod Listed
-- what a pattern covers, and what its test answers
pub mod Drawn
-- what a policy decides
pub mod Decided
-- replies without a fault
pub mod Formed
-- worked answers of the definitions
mod Examples
-- what reading answers, and what bytes state
pub mod Stated
