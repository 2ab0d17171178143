pub mod FirstIndex
pub mod Branches
pub mod Children
