mod ToldLemmas
mod CandidateLemmas
mod LayingLemmas
pub mod CopyLemmas
pub mod RestLemmas
pub mod GroupLemmas
pub mod RowLemmas
pub mod FaultLemmas
pub mod PartLemmas
pub mod HeaderLemmas
pub mod StatePartLemmas
pub mod PlacedLemmas
pub mod KeptLemmas
pub mod StepLemmas
pub mod PackingLemmas
pub mod FieldLemmas
pub mod PartOfLemmas
pub mod PlaceLemmas
pub mod WritingLemmas
