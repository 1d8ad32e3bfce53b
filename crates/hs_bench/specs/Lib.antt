pub mod Words
pub mod Rates
pub mod Kernel
pub mod Streaming
pub mod Expressions
pub mod BlockWise
