-- look-ups of merged variables
pub mod Overriding
