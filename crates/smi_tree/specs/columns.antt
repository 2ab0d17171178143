pub mod Definitions
pub mod Parts
pub mod Index
pub mod Kept
