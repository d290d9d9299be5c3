-- pairs that stand again behind a place, and those that do not
pub mod Once
