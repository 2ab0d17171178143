pub mod Syntax
pub mod Definition
pub mod Value
pub mod Detail
