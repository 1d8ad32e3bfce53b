pub mod NumberLemmas
pub mod FitLemmas
pub mod CharacterLemmas
pub mod EncodingLemmas
pub mod EscapeFits
pub mod FormLengths
