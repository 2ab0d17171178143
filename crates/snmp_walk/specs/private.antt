pub mod Codec
pub mod Course
pub mod OwnReply
pub mod ReplyRows
pub mod ComputedStep
