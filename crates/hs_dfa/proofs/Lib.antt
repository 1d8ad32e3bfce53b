pub mod EndLemmas
pub mod DfaLemmas
pub mod BlockRunLemmas
pub mod SetRunLemmas
