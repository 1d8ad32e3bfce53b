pub mod Counting
mod Filing
mod Pieces
pub mod Sending
mod Slots
mod Stock
pub mod Taking
pub mod Viewing
