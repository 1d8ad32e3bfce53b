-- An expression has one refusal of each number at most, so one least refusal.
use Rattle.std.proofs.Common.{◌≡◌, ℕ, ◌^◌, ◌≤◌, ◌⊎◌, ◌==◌, if◌then◌else◌, Option, Some, None, refl, sym, ap, ◌∙◌, inl, inr, arith}
use Rattle.std.proofs.lemmas.Bool.{cases_order}
use Rattle.hs_base.specs.declared.ext.Ext.{Ext}
use Rattle.hs_base.specs.declared.flags.Flags.{Flags}
use Rattle.hs_base.specs.declared.refusal.Refusal.{Refusal}
use Rattle.hs_base.specs.declared.refusal.Refusal.TheVariants.{MatchesEmpty, EmbeddedEnd, PositionLimit, OffsetOrder, UnsupportedFlag, UnsupportedParameter}
use Rattle.hs_base.specs.Chains.{chains_of}
use Rattle.hs_base.specs.Refusals.{number_of}
use Rattle.hs_base.specs.Trees.{Tree}
use Rattle.hs_expr.specs.Counts.{capped}
use Rattle.hs_support.specs.PieceCounts.{first_excess_of}
use Rattle.hs_support.specs.Support.{IsLeastOutside}
use Rattle.hs_support.proofs.RefusedLemmas.{fault-number}
use Rattle.hs_support.specs.Refused.{HasFlagsFault, flag, parameter, HasRefusal, unsupported, matches_empty, embedded_end, position_limit, offset_order, IsLeast}

-- one bit at most is the least
pub bit-unique : (supported bits a b : ℕ) → IsLeastOutside supported bits a → IsLeastOutside supported bits b → a ≡ b
bit-unique supported bits a b one other = elim (cases_order one.place other.place) [
  | inl same ↦ one.is ∙ ap (λ n. 2 ^ n) same ∙ sym other.is
  | inr (inl before) ↦ absurd (other.least one.place before one.outside)
  | inr (inr behind) ↦ absurd (one.least other.place behind other.outside)
]

-- the number, where there is one
abbrev count_in : Option ℕ → ℕ
count_in None = 0
count_in (Some n) = n

module _ (flags : Flags) (ext : Ext) where
  pub fault-unique : (first second : Refusal) → HasFlagsFault flags ext first → HasFlagsFault flags ext second → number_of first ≡ number_of second → first ≡ second
  fault-unique first second (flag a one) (flag b other) same = ap UnsupportedFlag (bit-unique _ _ a b one other)
  fault-unique first second (flag a one) (parameter b other) same = absurd (omega arith)
  fault-unique first second (parameter a one) (flag b other) same = absurd (omega arith)
  fault-unique first second (parameter a one) (parameter b other) same = ap UnsupportedParameter (bit-unique _ _ a b one other)

  module _ (tree : Tree) where
    -- the refusal of a number above those of flags and parameters
    abbrev later : ℕ → Refusal
    later number =
        if number == 6 then MatchesEmpty else (if number == 7 then EmbeddedEnd else (if number == 9 then PositionLimit (capped (count_in (first_excess_of (chains_of tree)))) else OffsetOrder))

    -- a refusal is one of those, or that of a flag or a parameter
    kinds : (refusal : Refusal) → HasRefusal flags ext tree refusal → HasFlagsFault flags ext refusal ⊎ ((6 ≤ number_of refusal) × (refusal ≡ later (number_of refusal)))
    kinds refusal (unsupported r fault) = inl fault
    kinds refusal (matches_empty not_allowed spans) = inr ((let above_faults : 6 ≤ 6 = omega arith in above_faults), refl)
    kinds refusal (embedded_end has) = inr ((let above_faults : 6 ≤ 7 = omega arith in above_faults), refl)
    kinds refusal (position_limit above) = inr ((let above_faults : 6 ≤ 9 = omega arith in above_faults), ap (λ x. PositionLimit (capped (count_in x))) (sym above))
    kinds refusal (offset_order above) = inr ((let above_faults : 6 ≤ 15 = omega arith in above_faults), refl)

    -- of one number there is one
    pub refusal-unique : (first second : Refusal) → HasRefusal flags ext tree first → HasRefusal flags ext tree second → number_of first ≡ number_of second → first ≡ second
    refusal-unique first second one other same = elim (kinds first one) [
      | inl fault ↦ elim (kinds second other) [
        | inl fault' ↦ fault-unique first second fault fault' same
        | inr (above, is') ↦ absurd (let few : number_of first ≤ 5 = fault-number flags ext first fault in omega arith)
      ]
      | inr (above, is) ↦ elim (kinds second other) [
        | inl fault' ↦ absurd (let few : number_of second ≤ 5 = fault-number flags ext second fault' in omega arith)
        | inr (above', is') ↦ is ∙ ap later same ∙ sym is'
      ]
    ]

    pub least-unique : (first second : Refusal) → IsLeast (HasRefusal flags ext tree) first → IsLeast (HasRefusal flags ext tree) second → first ≡ second
    least-unique first second one other =
        let up : number_of first ≤ number_of second = one.least second other.has in
        let down : number_of second ≤ number_of first = other.least first one.has in
        let same : number_of first ≡ number_of second = omega arith in
        refusal-unique first second one.has other.has same
