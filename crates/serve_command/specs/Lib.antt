-- why serving stops, and what is printed of a bad store
pub mod Ends
-- what comes of opening a store
pub mod Opening
-- what giving a keeper and lanes back leaves of an outside
pub mod Holding
-- what serving comes to
pub mod Serving
-- what an outside tells
pub mod Shelves
