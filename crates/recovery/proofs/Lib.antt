mod Common
mod Sharing
pub mod bad_listed
pub mod frees
pub mod greatest_numbers
pub mod key_order
pub mod opened
pub mod same_units
pub mod scan_facts
pub mod settings_pages
pub mod standing_for
pub mod table_facts
pub mod tables
pub mod whole_groups
