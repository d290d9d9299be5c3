-- which tree a node stands for
pub mod Nodes
-- what the reader's values say
pub mod Views
-- what stands around items, and what ends them
pub mod Blocks
-- the macros of a template by name
pub mod Macros
-- the nodes that stand for a text
pub mod Read
