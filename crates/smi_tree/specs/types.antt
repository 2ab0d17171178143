pub mod Chain
pub mod Types
pub mod Kept
pub mod Numbers
