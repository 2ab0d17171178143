pub mod Tokens
pub mod index
pub mod name
