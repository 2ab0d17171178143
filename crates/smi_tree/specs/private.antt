pub mod Resolved
pub mod Named
