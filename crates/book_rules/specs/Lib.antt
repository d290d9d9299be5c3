-- what a call comes to by its key
pub mod Admissions
-- what a command comes to
pub mod Commands
-- rows of plans and joins that may stand
pub mod Fits
-- the tables that a book starts from
pub mod Good
-- histories: sizes, limits, what stands after one, and the plan of the keeper's calls
pub mod History
-- how much the tables hold
pub mod Limits
-- the machine: what an event comes to, and what it leaves
pub mod Machine
-- variables, and values of keys
pub mod Names
-- what an event comes to: its reply, and the row that it writes
pub mod Outcomes
-- keys, plans, joins, grants and usage
pub mod PlanCommands
-- the stages of plans
pub mod PlanStages
-- how refusals and usage are printed
pub mod Printed
-- APIs, deployments, stages and canaries
pub mod StageCommands
-- what the columns of rows stand for
pub mod Stored
-- when a request happens
pub mod Times
-- the view of a stage by the last commands that were kept
pub mod Views
