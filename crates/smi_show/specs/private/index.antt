pub mod Digits
pub mod IndexValues
