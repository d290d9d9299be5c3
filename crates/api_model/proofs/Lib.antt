-- trees that stand while members are read
pub mod Planted
-- what a definition keeps
pub mod Kept
-- verbs lead to methods
pub mod Ranges
-- what may cross threads
pub mod Sent
-- what a definition names is there
pub mod Named
-- what holds of the parts that definitions state
pub mod Stated
