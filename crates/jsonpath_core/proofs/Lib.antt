-- what stands at the front of a text, and where it may be cut
pub mod Fronts
-- the number that digits spell
pub mod Numerals
-- the children of a node
pub mod Children
-- what steps select, one after another
pub mod Selected
-- reading one step after another
pub mod Turns
-- what is read is spelled
pub mod Sound
-- what is spelled is read
pub mod Complete
-- where reading stops
pub mod Stuck
-- what a path without a star selects, and steps in turn
pub mod Picked
-- the nodes that a path selects stand in the order of the document
pub mod Ordered
-- the nodes that a path selects are parts of the tree
pub mod Parts
-- worked answers of the definitions
mod Examples
-- what reading answers, and what a text is
pub mod Read
