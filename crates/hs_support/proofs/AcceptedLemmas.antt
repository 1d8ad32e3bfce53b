-- What an expression has that isn't refused.
use Rattle.std.proofs.Common.{◌≡◌, ℕ, ◌≤◌, true, false, [], Option, Some, None, refl, inl, inr}
use Rattle.std.proofs.lemmas.Bool.{cases_Bool, cases_lt}
use Rattle.hs_base.specs.declared.ext.Ext.{Ext}
use Rattle.hs_base.specs.declared.flags.Flags.{Flags}
use Rattle.hs_base.specs.declared.refusal.Refusal.TheVariants.{MatchesEmpty, EmbeddedEnd, PositionLimit, OffsetOrder}
use Rattle.hs_base.specs.Chains.{chains_of}
use Rattle.hs_base.specs.EndAssertions.{has_embedded_end}
use Rattle.hs_base.specs.Spans.{Spans}
use Rattle.hs_base.specs.Trees.{Tree}
use Rattle.hs_expr.specs.Counts.{capped}
use Rattle.hs_support.specs.PieceCounts.{first_excess_of}
use Rattle.hs_support.specs.Refused.{AllowsEmpty, matches_empty, embedded_end, position_limit, offset_order, IsSupported}

module _ (flags : Flags) (ext : Ext) (tree : Tree) (accepted : IsSupported flags ext tree) where
  -- it doesn't match the empty text, unless a flag allows that
  pub accepted-not_empty : (AllowsEmpty flags → ⊥) → Spans [] true tree 0 0 → ⊥
  accepted-not_empty not_allowed spans = accepted MatchesEmpty (matches_empty not_allowed spans)

  -- bytes aren't consumed behind an assertion of the stream's end
  pub accepted-ends : has_embedded_end tree false ≡ false
  accepted-ends = elim (cases_Bool (has_embedded_end tree false)) [
    | inl has ↦ absurd (accepted EmbeddedEnd (embedded_end has))
    | inr lacks ↦ lacks
  ]

  -- each of its pieces has few enough positions
  pub accepted-positions : first_excess_of (chains_of tree) ≡ None
  accepted-positions = by_excess (first_excess_of (chains_of tree)) refl
    where
      by_excess : (excess : Option ℕ) → first_excess_of (chains_of tree) ≡ excess → first_excess_of (chains_of tree) ≡ None
      by_excess None is = is
      by_excess (Some count) is = absurd (accepted (PositionLimit (capped count)) (position_limit is))

  -- its bounds are in order
  pub accepted-offsets : ext.min_offset ≤ ext.max_offset
  accepted-offsets = elim (cases_lt ext.max_offset ext.min_offset) [
    | inl above ↦ absurd (accepted OffsetOrder (offset_order above))
    | inr order ↦ order
  ]
