pub mod AcceptedLemmas
pub mod OutsideLemmas
pub mod RefusedLemmas
pub mod UniqueLemmas
pub mod WalkLemmas
pub mod PieceLemmas
pub mod ExcessLemmas
