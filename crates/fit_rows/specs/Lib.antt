-- what holds of every history
pub mod Laws
