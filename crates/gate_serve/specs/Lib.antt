-- what serving a message leaves of a seat, and how far the message came
pub mod Serving
