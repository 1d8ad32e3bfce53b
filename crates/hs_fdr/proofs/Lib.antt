pub mod OrLemmas
pub mod LaneLemmas
pub mod AddingLemmas
pub mod TableLemmas
pub mod BlockLemmas
