mod Winners
mod Played
mod Without
mod Grown
mod Indexed
mod Seating
pub mod Down
pub mod Laws
