pub mod Changes
pub mod Columns
pub mod Direct
pub mod Listing
pub mod Polled
pub mod Rows
pub mod Traps
