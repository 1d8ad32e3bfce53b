pub mod WordLemmas
pub mod KernelLemmas
pub mod StreamingLemmas
