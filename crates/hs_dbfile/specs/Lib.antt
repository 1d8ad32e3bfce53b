pub mod Files
pub mod Reading
pub mod Entries
pub mod Laws
pub mod States
