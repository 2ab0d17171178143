pub mod TableBuilder
pub mod BinarySearch
pub mod Line
pub mod Row
