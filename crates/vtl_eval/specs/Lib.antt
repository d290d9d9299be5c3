-- references and chains, as they are evaluated
pub mod Evaluated
-- calls of macros that do nothing
pub mod Idle
-- what holds of calls that are passed over
pub mod Laws
-- the arguments that a frame stands for
pub mod Frames
-- what the program's values say
pub mod Views
-- what a template renders to, what it costs, and where it stops
pub mod Meaning
-- how a stop is printed
pub mod Printed
-- references, from their names to their values
pub mod References
-- what roots mean, and what was written
pub mod Roots
-- the state of a render, its cost and its limits
pub mod World
-- what a render leaves that is cut short
pub mod Cuts
