pub mod Number
pub mod Spec
pub mod Pieces
pub mod Hint
pub mod Form
