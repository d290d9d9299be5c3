-- what leads to what
pub mod Leads
-- an order of things
pub mod Ranks
