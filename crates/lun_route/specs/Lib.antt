pub mod Lists
pub mod Luns
pub mod Operations
pub mod Pages
pub mod Routes
