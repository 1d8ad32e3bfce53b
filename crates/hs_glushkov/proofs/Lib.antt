pub mod CountLemmas
pub mod FollowLemmas
pub mod SquareLemmas
pub mod NarrowLemmas
pub mod PartLemmas
pub mod RowLemmas
pub mod BuildLemmas
