-- texts with escapes: hexadecimal digits, JavaScript, JSON
pub mod Escapes
-- the codings of $util
pub mod Codings
-- the values of JSON documents, and the texts of their nodes
pub mod Documents
-- a body with its document
pub mod Read
-- the parts of a node, as values
pub mod Parts
-- values of texts
pub mod Values
-- $input
pub mod Input
-- the program's parameters
pub mod Params
-- $context and $stageVariables
pub mod Facts
-- the program's occasions
pub mod Occasions
-- $util
pub mod Util
-- which paths below $context may be written
pub mod Writing
-- the table of writes
pub mod Rows
-- what the roots of a template are made from, and what they mean
pub mod Held
-- what the writes of a template come to
pub mod Overriding
-- the place of a name among pairs
pub mod Changes
-- the program's roots, and what they mean
pub mod Meanings
