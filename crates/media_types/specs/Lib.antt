-- spaces and tabs
pub mod Blanks
-- the media type of a message
pub mod MediaTypes
