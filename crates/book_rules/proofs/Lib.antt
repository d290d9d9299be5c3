pub mod Columns
pub mod Histories
pub mod PlanRows
pub mod Times
pub mod Viewing
