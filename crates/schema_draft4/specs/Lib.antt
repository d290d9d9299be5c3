-- the names of keywords
pub mod Words
-- the schemas that a document's value is
pub mod Reading
-- references that come back
pub mod Cycles
-- what is known of references that come back
pub mod Links
-- what the program's faults stand for
pub mod Faults
-- a schema that was read
pub mod Compiled
-- laws of what was read
pub mod Laws
