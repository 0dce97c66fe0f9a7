pub mod Agreement
pub mod PairsKept
pub mod PairsOpened
pub mod PairsChanged
