-- whether a value is among others, and the bytes that are compared
pub mod Comparisons
-- the table: what each method gives
pub mod Methods
-- which method a name means
pub mod Names
