-- a text without the blanks at its ends
pub mod Ends
