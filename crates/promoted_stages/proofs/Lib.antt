-- stages of tables that a book starts from
mod Opened
-- what a promotion leaves
mod Promoting
-- stages have variables after every history
mod Staging
-- variables, and their column
mod Variables
