pub mod Base
pub mod Meaning
pub mod Scopes
pub mod Names
pub mod Directory
pub mod Resolved
pub mod Along
pub mod Parents
