-- which response rule a status selects
pub mod Choosing
-- what holds of that
pub mod Laws
-- the texts that paths select of a body
pub mod Bodies
-- the values of the sources of a rule's mappings
pub mod Values
-- the headers of an answer
pub mod Headers
-- why no answer is made
pub mod Stopping
-- what a template comes to
pub mod Rendering
-- what a client is answered
pub mod Answers
-- the body that an integration prepares
pub mod Preparing
-- what an integration without a backend tells
pub mod Mocking
