pub mod AreaKept
pub mod AreaStays
pub mod OneAtATime
pub mod PagesRead
