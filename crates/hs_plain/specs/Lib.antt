pub mod OffsetSets
pub mod PlainPatterns
pub mod Points
pub mod Repeats
