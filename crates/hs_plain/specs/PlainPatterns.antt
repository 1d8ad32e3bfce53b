-- The plain patterns and pairs that the program's values stand for.
use Rattle.std.specs.Prelude.{ℕ, ◌⊎◌, ◌↔◌, Bool, List, map}
use Rattle.hs_base.specs.Lists.{IsMember, IsRising}
pub use Rattle.hs_base.specs.ReportView.{pair_of}
use Rattle.hs_base.specs.Patterns as base
use Rattle.hs_base.specs.Patterns.{IsPair}
use Rattle.hs_base.specs.Reports.{IsReport}
use Rattle.hs_base.specs.Told.{Pair, IsBefore}
use Rattle.hs_base.specs.declared.entry.Report.{Report}
use Rattle.hs_expr.specs.Meaning.{tree_of}
use Rattle.hs_plain.specs.declared.pattern.Pattern.{Pattern}

-- the plain pattern
abbrev pub pattern_of : Pattern → base.Pattern
pattern_of x = record { id = x.id.0; single = x.single; least = x.least; greatest = x.greatest; tree = tree_of x.expr }

-- the plain patterns of a list
abbrev pub patterns_of : List Pattern → List base.Pattern
patterns_of xs = map pattern_of xs

-- the pairs of a list of reports
abbrev pub pairs_of : List Report → List Pair
pairs_of rs = map pair_of rs

-- the identifier has a pair with that end among these
abbrev pub HasPair : List Pair → (id to : ℕ) → Type 0
HasPair pairs id to = IsMember (record { id = id; to = to }) pairs

-- The pairs of the stream, each once, by end, then identifier.
pub record ArePairs (P : List base.Pattern) (w : List ℕ) (ended : Bool) (pairs : List Pair) : Type 0 where
  pub each : (p : Pair) → IsMember p pairs ↔ IsPair P w ended p.id p.to
  pub rising : IsRising IsBefore pairs

-- The reports of the stream, each once, by end, then identifier.
pub record AreReports (P : List base.Pattern) (w : List ℕ) (ended : Bool) (reports : List Pair) : Type 0 where
  pub each : (p : Pair) → IsMember p reports ↔ IsReport P w ended p.id p.to
  pub rising : IsRising IsBefore reports

-- The new list has the pairs with the property beside those of the old one, and is in order where that is.
pub record AddsPairs (Q : Pair → Type 0) (old new : List Pair) : Type 0 where
  pub each : (p : Pair) → IsMember p new ↔ (IsMember p old ⊎ Q p)
  pub rising : IsRising IsBefore old → IsRising IsBefore new

-- The list has those of the pairs that have the property, and is in order where those are.
pub record KeepsPairs (Q : Pair → Type 0) (pairs kept : List Pair) : Type 0 where
  pub each : (p : Pair) → IsMember p kept ↔ (IsMember p pairs × Q p)
  pub rising : IsRising IsBefore pairs → IsRising IsBefore kept
