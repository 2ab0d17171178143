pub mod Address
pub mod Memory
