pub mod Index
pub mod Pieces
