pub mod EndingLemmas
pub mod EarlyLemmas
pub mod SettledLemmas
pub mod ReadingLemmas
pub mod OnceLemmas
pub mod InfoLemmas
pub mod WritableLemmas
