-- the first of the connections to come is lent, and one is given back
pub mod Docked
