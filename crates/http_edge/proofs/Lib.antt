pub mod Joins
pub mod Made
pub mod Steps
pub mod ReplySteps
pub mod ReplyJoins
pub mod Phrases
pub mod NextUnique
pub mod ReplyUnique
