pub mod FewLemmas
pub mod PlaceLemmas
