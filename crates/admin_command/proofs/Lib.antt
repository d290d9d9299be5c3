-- how lines are carried out, one by one
pub mod Going
-- the places of the changes that were lost
pub mod Lost
-- lines come to one thing
pub mod Once
-- from the opening of a store to its keeper's return
pub mod Administered
