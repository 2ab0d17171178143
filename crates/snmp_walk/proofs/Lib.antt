pub mod Names
pub mod SortedRows
mod Members
pub mod RequestParts
pub mod ReplyRows
pub mod Trail
pub mod StepProgress
pub mod OneTable
pub mod StepRequest
pub mod Sinks
pub mod Runs
pub mod Moves
pub mod RunResult
pub mod Variables
pub mod ComputedStep
pub mod Progress
pub mod Tables
pub mod Facts
pub mod Bulk
pub mod OwnReply
pub mod Room
pub mod ShortRows
pub mod EnoughRoom
pub mod FullReplies
pub mod Arenas
pub mod MemoryLinks
pub mod Lost
mod TryLoops
pub mod GetNames
pub mod Ordered
mod StepRules
pub mod GetEnds
pub mod Gets
pub mod FreshWalk
pub mod Networks
mod RunEvents
mod ReplyFacts
pub mod LooseLinks
