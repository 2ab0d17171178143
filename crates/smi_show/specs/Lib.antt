pub mod Line
pub mod index
pub mod name
pub mod details
pub mod private
