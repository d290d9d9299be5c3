-- what contracts see of the machine and of its ports
pub mod Stands
