-- What may be said of reported pairs where nothing is known of the stream.
use Rattle.std.specs.Prelude.{ℕ, ◌≤◌, List}
use Rattle.hs_base.specs.Lists.{Each, IsMember, IsRising}
use Rattle.hs_base.specs.Told.{Pair}

-- The pairs have identifiers among these, and ends from the one offset to the other, which don't fall.
pub record ArePairsOf (ids : List ℕ) (low high : ℕ) (pairs : List Pair) : Type 0 where
  pub named : Each (λ p. IsMember p.id ids) pairs
  pub ends : Each (λ p. (low ≤ p.to) × (p.to ≤ high)) pairs
  pub rising : IsRising (λ p q. p.to ≤ q.to) pairs
