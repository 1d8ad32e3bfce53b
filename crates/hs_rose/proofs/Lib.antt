pub mod IdLemmas
pub mod ListLemmas
pub mod KeyLemmas
pub mod IndexLemmas
pub mod NamingLemmas
pub mod MakeLemmas
pub mod ShapeLemmas
pub mod OrderLemmas
pub mod BuildLemmas
pub mod RoleListLemmas
pub mod IdentifierLemmas
pub mod FinishLemmas
pub mod ListedLemmas
pub mod SplitLemmas
pub mod LawLemmas
pub mod SizeLemmas
pub mod PlanLemmas
pub mod StreamingLemmas
pub mod TimelessLemmas
pub mod MovesRowLemmas
pub mod LastByteLemmas
pub mod LivingByteLemmas
mod LastBlockLemmas
mod RepeatEntryLemmas
