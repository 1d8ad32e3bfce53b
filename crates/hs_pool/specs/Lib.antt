pub mod Blocks
pub mod Credits
pub mod Rows
pub mod Pools
pub mod Following
pub mod Growing
pub mod Running
