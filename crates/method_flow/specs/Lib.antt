-- answers, and their causes
pub mod Answers
