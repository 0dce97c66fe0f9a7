pub mod KeptAreThere
pub mod LookedUpPages
pub mod PagesStay
pub mod ReadsAreOfPages
pub mod ReadsStay
pub mod SlotsBecomePages
pub mod UnmendedPages
