mod Common
pub mod BarePins
pub mod Rises
pub mod RowWalks
pub mod Stays
