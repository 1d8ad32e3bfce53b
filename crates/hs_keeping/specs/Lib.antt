pub mod Keeping
pub mod Knowing
pub mod Leaving
pub mod Finishing
