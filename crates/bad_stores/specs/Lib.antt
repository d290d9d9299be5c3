-- when a store is refused
pub mod Laws
