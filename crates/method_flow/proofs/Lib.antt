-- renders whose writes are let go
pub mod Renders
