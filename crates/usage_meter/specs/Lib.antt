-- what a quota allows at a moment
pub mod Allowances
-- the level of a bucket, brought up to date
pub mod Levels
-- the months of the calendar, by their days
pub mod Months
-- the numbers of days, weeks and months, and the moments that they hold
pub mod Periods
-- the level of a bucket over a history of admissions
pub mod Windows
