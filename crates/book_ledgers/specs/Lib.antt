-- what befell each key under each plan
pub mod Ledgers
-- what holds of every history
pub mod Laws
