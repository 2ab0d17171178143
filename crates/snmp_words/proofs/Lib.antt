pub mod Commands
pub mod Faultless
pub mod OptionValues
