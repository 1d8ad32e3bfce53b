pub mod AnyLemmas
pub mod PlaceLemmas
pub mod RowTableLemmas
pub mod RowLemmas
pub mod WakeLemmas
pub mod EntryLemmas
pub mod SetEntryLemmas
mod LevelLemmas
pub mod WordLemmas
mod FitLemmas
pub mod WakerLemmas
pub mod PrevLemmas
pub mod StartLemmas
mod FitStackLemmas
