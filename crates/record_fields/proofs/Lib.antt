-- coded bytes, read again
pub mod Coded
-- numbers of digits, and texts that are UTF-8
pub mod Digits
-- fields joined by one space, and parted again
pub mod Joined
-- parts of a line, decoded one by one
pub mod Parts
-- columns, read again
pub mod ReadBack
-- bytes that are told to be UTF-8
pub mod Utf8
