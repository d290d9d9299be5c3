-- whether a connection closes behind a message
pub mod Closing
-- what a message comes to
pub mod Planning
-- the way of one message through the gateway
pub mod Walk
-- what is done on a message's way, and how it stands in the history
pub mod Acts
-- what was done on one connection
pub mod Stories
-- what is done on the connections of one lane
pub mod Lanes
-- how a connection ends by a fault of its input
pub mod Ends
-- what events and connections come to, where all that is outside of the book is told
pub mod Told
-- what holds of ways and of histories
pub mod Laws
-- how the end of a connection is printed
pub mod Printed
