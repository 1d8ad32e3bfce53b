pub mod Groups
pub mod Forests
pub mod Growing
pub mod Laws
pub mod Views
