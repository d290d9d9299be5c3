-- schemas as plain data
pub mod Rules
-- the verdict of a schema on a value
pub mod Verdict
-- schemas of one value come in an order
pub mod Order
-- which schemas and verdicts the program's are
pub mod Views
-- what holds of each rule by itself
pub mod Made
-- what is judged, and what is known of it
pub mod Cases
-- laws of the definitions
pub mod Laws
