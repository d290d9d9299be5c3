-- a row is told by its columns
mod Told
-- values that equal a key, and values that a column takes as they are
mod Values
-- the one row of a table that passes a test, and the answer of a query that asks for it
mod Matches
-- what an upsert of one row makes of the trees
mod Upserts
-- what the texts of the store's statements mean
mod Texts
-- the one row of a key, in a table over which a row was written
mod Places
-- a row that is written is the one that its key finds
mod Kept
-- of each table, a row that is written is read back
mod Back
-- a connection to a store, and what is read over it
mod Connected
