-- the steps of a path, and what is written of its faults
pub mod Steps
-- how a path is spelled
pub mod Spelling
-- where a text stops being a path
pub mod Faults
-- how a text is read from left to right
pub mod Reading
-- the nodes that a path selects
pub mod Selecting
-- the order of nodes in a document
pub mod Order
-- what the program's steps and answers stand for
pub mod Views
-- what is printed of a fault
pub mod Printed
-- what holds of the definitions
pub mod Laws
