pub mod Blocks
pub mod Lanes
pub mod Adding
pub mod Masks
