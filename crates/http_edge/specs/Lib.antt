-- how an answer is written
pub mod Answers
-- what a buffer keeps between two calls
pub mod Buffers
-- what holds of messages and replies
pub mod Laws
-- the messages of a stream
pub mod Messages
-- what the steps of reading a message come to
pub mod Reads
-- the reply of a backend
pub mod Replies
-- what the steps of reading a reply come to
pub mod ReplyReads
-- statuses of messages without a body
pub mod Statuses
-- the texts of a head's fields
pub mod Texts
