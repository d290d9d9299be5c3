-- what tables hold, and the room that they have
pub mod Held
-- joins in their places, and their numbers
pub mod Joins
-- what contracts see of a keeper, and what its calls say
pub mod Keeping
-- the seven tables as lists of rows, the keys of their rows, and what a row that is put leaves
pub mod Lists
-- where a key stands among rows in order
pub mod Places
-- how the names of tables are printed
pub mod Printed
