pub mod StartLemmas
pub mod WrittenLemmas
pub mod HistoryLemmas
pub mod LendingLemmas
pub mod FieldLemmas
pub mod RowLemmas
