pub mod Reading
pub mod Breaks
