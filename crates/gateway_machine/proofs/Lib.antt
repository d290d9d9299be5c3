-- what holds of all holds of the rest
pub mod Rest
-- what holds whatever a call answers
pub mod Whatever
