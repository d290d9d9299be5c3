-- the tree of a document
pub mod Tree
-- the bytes at the front: white space, words, numbers
pub mod Scan
-- the text of a string
pub mod Strings
-- what a number is, by its source
pub mod Numbers
-- the reading function, with the first fault
pub mod Reading
-- which bytes spell which tree
pub mod Grammar
-- the end of a text, between characters
pub mod Places
-- what the program's enums stand for
pub mod Views
-- which tree a node stands for
pub mod Nodes
-- reading a value by turns
pub mod Turns
-- what the reader's open brackets stand for
pub mod Opened
-- a document that was read, and its parts
pub mod Documents
-- a text without the white space outside its strings
pub mod Compact
-- the program's places in a text
pub mod CompactView
-- members of the program's nodes, by name
pub mod Numbered
-- laws of the definitions
pub mod Laws
-- a tree without its places
pub mod Bare
-- how far bytes can still begin a document
pub mod Prefixes
