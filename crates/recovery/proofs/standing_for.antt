pub mod FoundStands
