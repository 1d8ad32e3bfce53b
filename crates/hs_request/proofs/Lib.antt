pub mod LineLemmas
pub mod WordLemmas
pub mod TakenLemmas
pub mod NumberLemmas
