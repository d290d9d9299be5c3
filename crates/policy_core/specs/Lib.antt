-- which texts a pattern covers
pub mod Patterns
-- what a policy decides
pub mod Decisions
-- which replies are policies, where the others have their first fault, and what a policy's parts are
pub mod Replies
-- reading a reply
pub mod Reading
-- what the program's steps stand for
pub mod Views
-- what is printed of a fault
pub mod Printed
-- which trees are policies
pub mod Forms
-- what holds of the definitions
pub mod Laws
