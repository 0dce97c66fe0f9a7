pub mod Among
pub mod Frontiers
pub mod Tops
