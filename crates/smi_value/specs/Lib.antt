pub mod Syntax
pub mod Texts
pub mod Pieces
pub mod Value
pub mod Letters
pub mod hint
