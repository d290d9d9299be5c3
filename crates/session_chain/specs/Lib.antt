-- how lanes end, and whether another session follows
pub mod Ends
-- sessions that follow each other
pub mod Chains
-- what serving them all comes to
pub mod Served
