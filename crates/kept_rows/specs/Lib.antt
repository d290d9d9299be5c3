-- the laws of the rows in the file
pub mod Laws
-- the schema of a store
pub mod Store
