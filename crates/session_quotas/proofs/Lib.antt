-- rows show their ledgers
mod Showing
-- a call's reply is by its ledger
mod Calling
-- so is that of each step of a lane
mod Standing
-- the usage that is told is what its ledger comes to
mod Telling
