pub mod CellLemmas
pub mod RowLemmas
pub mod PositionLemmas
pub mod AlikeLemmas
pub mod AgreementLemmas
pub mod PastLemmas
pub mod AutomatonLemmas
pub mod MeaningLemmas
