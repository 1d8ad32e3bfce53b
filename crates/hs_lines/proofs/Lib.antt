pub mod PassLemmas
pub mod PrintLemmas
