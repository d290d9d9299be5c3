mod Taking
mod Sitting
