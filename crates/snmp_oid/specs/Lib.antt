pub mod Identifier
pub mod Numeric
