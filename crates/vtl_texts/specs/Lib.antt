-- lengths and places in characters, letters in another case, a text without the blanks at its ends
pub mod Characters
-- what a pattern and a replacement stand for
pub mod Patterns
-- the places of one text in another: replacing and splitting
pub mod Places
