-- the counts of a period by its receipts
pub mod Counting
-- the level that is kept, by the admissions since its bucket began
pub mod Filling
-- the counts that are kept, by the receipts that are charged
pub mod Charging
-- the row that is kept shows the numbers of all that befell it
pub mod Showing
-- what the definitions compute
mod Worked
