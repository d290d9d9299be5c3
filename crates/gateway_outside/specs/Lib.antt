-- the line that says where the gateway listens
pub mod Announced
-- what one exchange over a connection to a backend comes to
pub mod Exchanges
-- what contracts see of connections and ports over sockets
pub mod Stands
