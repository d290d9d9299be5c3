mod Asking
mod Entering
mod Found
mod Puts
mod Remembering
pub mod Sent
mod Starting
mod Stepping
mod Stores
-- counts of one entry more
mod Counted
-- the values of keys, while one is put
mod Named
-- names
mod Short
-- columns of stages
mod Columned
-- rows under their own names
mod Written
