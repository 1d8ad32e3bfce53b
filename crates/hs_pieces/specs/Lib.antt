pub mod Meaning
pub mod Splitting
pub mod LookBack
pub mod Proper
pub mod Laws
