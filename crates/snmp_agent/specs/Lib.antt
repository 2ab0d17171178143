pub mod Event
pub mod Reply
pub mod Serving
pub mod table
pub mod private
