pub mod ReadLemmas
pub mod ShortLemmas
