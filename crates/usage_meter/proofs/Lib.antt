-- levels that are brought up to date
pub mod LevelLemmas
-- which month holds a day, and the calendar's dates
pub mod MonthLemmas
-- which period holds a moment
pub mod PeriodLemmas
-- the level that is kept, and the windows
pub mod WindowLemmas
-- what the definitions compute
mod Worked
