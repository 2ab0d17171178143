pub mod Left
pub mod Part
pub mod NameResult
pub mod Shown
