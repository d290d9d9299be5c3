-- what a seat knows, and what a call of a desk says of it
pub mod Calls
-- sums and counts over lists
pub mod Counts
-- the entries of one seat in a history
pub mod Entries
-- a desk of one seat
pub mod OneSeat
-- the rule that the table of a desk keeps
pub mod Rule
-- what each step on the table tells
pub mod Steps
-- where a seat stands with the turn, and what is asked of the numbers it holds
pub mod Views
