pub mod Files
pub mod Loaded
pub mod FaultText
pub mod Warned
