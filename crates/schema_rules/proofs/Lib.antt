pub mod Chains
pub mod Ordered
pub mod Keywords
pub mod Known
pub mod Judged
pub mod Nodes
pub mod Sent
