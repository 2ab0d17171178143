pub mod Choosing
pub mod Planned
pub mod Start
