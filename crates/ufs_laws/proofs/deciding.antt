pub mod Connectives
pub mod SearchOverPlaces
