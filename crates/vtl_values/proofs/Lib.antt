pub mod Depths
pub mod Fronts
pub mod Items
pub mod Numbers
pub mod Pieces
pub mod Rows
pub mod Wholes
