-- answers that name no cause
mod Free
-- the causes that answers name
pub mod Causes
-- the kinds that tell of an admission
pub mod Admitting
-- the authorizer of a method is asked
mod Asking
