-- the members of a document
pub mod Document
-- what a definition states
pub mod Definition
-- the parts that getters give
pub mod Getters
-- what the program's values stand for
pub mod Views
-- what a definition keeps
pub mod Kept
-- verbs lead to methods
pub mod Ranges
-- what a definition names is there
pub mod Named
-- what methods take from the paths of their resources, and where they go
pub mod Taken
