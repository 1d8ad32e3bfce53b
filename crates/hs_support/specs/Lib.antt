pub mod Support
pub mod PieceCounts
pub mod Refused
pub mod Waiting
pub mod Walking
