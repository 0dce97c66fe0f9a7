pub mod Rolls
pub mod StandingRolls
pub mod BooksKept
