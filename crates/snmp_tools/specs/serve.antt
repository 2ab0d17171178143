pub mod ServeResult
pub mod Service
pub mod TableFile
