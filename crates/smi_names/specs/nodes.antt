pub mod Imports
pub mod Nodes
pub mod Gathered
