-- keywords as plain data, and when a value meets them
pub mod Keywords
-- which keywords the program's are
pub mod Views
