pub mod Actions
pub mod Scripts
pub mod Bases
pub mod Machine
pub mod Runs
pub mod Laws
pub mod Joins
