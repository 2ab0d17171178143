pub mod Answering
pub mod Cursor
pub mod table
