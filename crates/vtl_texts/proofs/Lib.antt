-- one byte in the place of another
pub mod Bytes
-- places and lengths in characters
pub mod Counted
-- where one text first stands in another
pub mod Cuts
-- a text or a list of parts without its end
pub mod Ends
-- characters behind a `\`
pub mod Plain
-- the parts of a text, and what joins them
pub mod Rounds
