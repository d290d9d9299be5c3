-- an index beside its rows
pub mod Following
-- look-ups in the map of names
pub mod Names
