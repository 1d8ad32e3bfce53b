pub mod Members
pub mod Runs
pub mod Lowered
pub mod Digits
pub mod Steps
pub mod Folds
