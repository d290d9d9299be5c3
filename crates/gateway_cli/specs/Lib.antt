-- what `check` prints of its file
pub mod Check
-- what the words ask for
pub mod Commands
-- files that are asked for
pub mod Files
-- what `render` prints of its files
pub mod Render
-- what a template sees: a request and its call
pub mod Requests
-- what the top call leaves
pub mod Top
-- what the command `admin` comes to
pub mod Admin
