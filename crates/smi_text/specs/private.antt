pub mod Ahead
pub mod Format
pub mod Grammar
pub mod Kinds
pub mod Names
pub mod Returned
