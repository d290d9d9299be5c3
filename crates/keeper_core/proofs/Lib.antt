-- what is found after rows were put
pub mod Finding
-- the keys of the seven tables are ordered
pub mod Keys
-- rows in the order of their keys
pub mod Orders
-- rows at the place of their key
pub mod Placing
-- what is put at the place of a key, and what stands there
pub mod Putting
-- a join row that is rewritten
pub mod Rewriting
-- room for rows that are staged
pub mod Rooms
