-- a route is found by its verb and path
mod Finding
-- the segments of a target, and the text that joins them
mod Behind
-- a definition that is refused
mod Refusing
