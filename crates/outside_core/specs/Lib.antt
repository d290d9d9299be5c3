-- files, by name
pub mod Files
-- what an outside in memory holds, and what its calls change of it
pub mod Held
-- lanes as they are lent and given back, and counts that rise
pub mod Lending
-- stores, by name
pub mod Stores
-- what a lane tells
pub mod Told
