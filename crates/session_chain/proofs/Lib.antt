mod Fronts
mod Going
mod Nexts
mod Quiet
mod Turning
