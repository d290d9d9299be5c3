-- where a cut is counted from
pub mod Faults
-- what awaiting a head comes to
pub mod HeadReads
-- when a request's head stands, and why none does
pub mod Heads
-- when a reply's head stands, and why none does
pub mod ReplyHeads
-- bytes that are held, and bytes that a source has left
pub mod Stream
-- the test that bytes end inside a request's target
pub mod Targets
-- how a head says where its body ends
pub mod Framings
-- what the body behind a head comes to
pub mod Bodies
-- what the steps of reading a body come to
pub mod BodyReads
-- a body in chunks
pub mod Chunks
-- what the steps of reading a chunked body come to
pub mod ChunkReads
-- the trailers of a body in chunks, line by line
pub mod Trailers
-- what holds of bodies
pub mod Laws
