-- What is counted of the patterns of a list.
use Rattle.std.specs.Prelude.{◌≡◌, ℕ, ◌≤◌, Bool, List, length, Option, MatchOption}
use Rattle.std.specs.List.{sum_by}
use Rattle.hs_base.specs.Chains.{chains_of}
use Rattle.hs_base.specs.Lists.{OneOf}
use Rattle.hs_base.specs.Patterns.{Pattern, is_single}
use Rattle.hs_base.specs.Regions.{IsPlan}
use Rattle.hs_rose.specs.Plans.{chains_size, plan_with}
use Rattle.hs_compile.specs.Sizes.{greatest_size, IsSizeOf}
use Rattle.hs_compile.specs.declared.counts.Counts.{Counts}

-- The identifiers of the patterns are so many, and the single ones among them.
pub record AreNamed (P : List Pattern) (counts : Counts) : Type 0 where
  pub ids : List ℕ
  pub single_ids : List ℕ
  pub is_plan : IsPlan (plan_with P ids single_ids)
  pub identifiers : counts.identifiers ≡ length ids
  pub singles : counts.singles ≡ length single_ids
  pub few : length ids ≤ length P
  pub fewer : length single_ids ≤ length P

-- That is known of an identifier: whether it is single, if a pattern has it.
abbrev pub IsKnownName : List Pattern → (id : ℕ) → Option Bool → Type 0
IsKnownName P id known =
    MatchOption known
    (OneOf (λ x. x.id ≡ id) P → ⊥)
    (λ single. OneOf (λ x. x.id ≡ id) P × (is_single P id ≡ single))

-- how many bytes the fields of a pattern take
abbrev pub pattern_size : Pattern → ℕ
pattern_size x = chains_size (chains_of x.tree)

-- Their fields take so many bytes too.
pub record AreCounts (P : List Pattern) (counts : Counts) : Type 0 where
  pub named : AreNamed P counts
  pub fields : counts.fields ≡ sum_by pattern_size P

-- The region of the patterns is small enough.
pub record IsSmall (P : List Pattern) : Type 0 where
  pub bytes : ℕ
  pub size : IsSizeOf P bytes
  pub within : bytes ≤ greatest_size
