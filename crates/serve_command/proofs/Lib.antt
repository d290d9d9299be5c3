mod Giving
mod Serves
mod Telling
