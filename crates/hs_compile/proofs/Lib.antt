pub mod RisingLemmas
pub mod PlanLemmas
pub mod CountLemmas
pub mod ReadLemmas
pub mod SizeLemmas
pub mod NumberLemmas
pub mod EntryLemmas
pub mod ListLemmas
pub mod SeenLemmas
pub mod KnownLemmas
pub mod LengthLemmas
pub mod DatabaseLemmas
mod LivingLemmas
pub mod LayingLemmas
pub mod DoneLemmas
pub mod GraphListLemmas
pub mod NodeLemmas
pub mod WakeLemmas
pub mod ChildLemmas
pub mod ByNodeLemmas
pub mod EndLemmas
pub mod StepLemmas
pub mod KeyLemmas
pub mod JoinLemmas
pub mod RowLemmas
pub mod KindLemmas
pub mod IdentifierLemmas
pub mod PlaceLemmas
pub mod LoweredLemmas
pub mod GraphLemmas
pub mod SoundLemmas
pub mod RunLemmas
mod WakeRowLemmas
mod PackingLemmas
pub mod CopiedLemmas
pub mod RenamedLemmas
pub mod NumberingLemmas
pub mod ArrangedLemmas
