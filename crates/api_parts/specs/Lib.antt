-- the hosts of backends
pub mod Hosts
-- the places of faults
pub mod Places
-- what is printed of a cause
pub mod Printed
-- how the parts of a document are read
pub mod Reading
