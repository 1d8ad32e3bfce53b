pub mod Meaning
pub mod Counts
pub mod Items
pub mod Kinds
pub mod Waiting
