pub mod Counting
pub mod Ranges
pub mod FollowTables
pub mod Squares
pub mod Parts
pub mod Cores
pub mod BuiltParts
