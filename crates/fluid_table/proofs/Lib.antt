pub mod Maps
pub mod Neighbours
pub mod Ordered
pub mod Places
pub mod KeyedPlaces
