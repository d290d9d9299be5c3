-- behind what an authorizer's answers stand
pub mod Laws
