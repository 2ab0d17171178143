pub mod Chain
pub mod Resolution
pub mod Order
