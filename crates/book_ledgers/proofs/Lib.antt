-- rows follow their ledgers
mod Following
-- ledgers are in order
mod Ordering
-- joins have plans
mod Planned
-- the laws of usage plans hold of the rows
mod Showing
