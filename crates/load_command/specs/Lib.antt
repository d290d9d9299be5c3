-- the lines of a load
pub mod Lines
-- what is printed of it
pub mod Summary
-- what it comes to
pub mod Loading
