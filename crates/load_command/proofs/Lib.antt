-- how a load goes on
mod Going
-- a call behind another
mod Calling
