use Rattle.smi_tree.specs.{Tree.Contents}
pub mod Nodes
pub mod Indices
pub mod LongestPrefix
pub mod Shown
pub mod Tree
pub mod Bare
pub mod Defined
pub mod Kept
pub mod Naming
pub mod Found
pub mod branches
pub mod types
pub mod columns
pub mod Pairwise
pub mod private
