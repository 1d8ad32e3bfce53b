pub mod CodeLemmas
pub mod NumberLemmas
pub mod FieldLemmas
pub mod EntryLemmas
pub mod FileLemmas
pub mod WritingLemmas
pub mod PlaceLemmas
pub mod StateLemmas
