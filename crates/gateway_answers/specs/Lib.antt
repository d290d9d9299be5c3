-- the values of a rule's headers
pub mod Values
-- the headers of a gateway response
pub mod Headers
-- gateway responses
pub mod Answers
-- the causes that headers name
pub mod Causes
