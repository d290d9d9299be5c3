mod LastWrites
mod Placed
mod Rows
mod Utf8
mod Values
