pub mod Hash
pub mod Name
pub mod chains
pub mod meaning
pub mod nodes
pub mod private
