pub mod Cut
pub mod Cutting
pub mod Beginnings
pub mod Word
pub mod Meaning
pub mod Name
pub mod Meant
