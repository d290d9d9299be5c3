-- good tables stay good
pub mod Laws
