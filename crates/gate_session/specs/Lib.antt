-- a lane at its place, before it is served and behind it
pub mod Posts
-- what the lanes of a session do in its one history
pub mod Sessions
-- the line that a session ends with
pub mod Line
