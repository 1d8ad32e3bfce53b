-- Which refusal is the one of least number.
use Rattle.std.proofs.Common.{◌≡◌, ℕ, ◌<◌, ◌≤◌, true, false, [], Option, Some, None, refl, sym, ◌∙◌, arith}
use Rattle.std.specs.Option.{option_map}
use Rattle.hs_base.specs.declared.ext.Ext.{Ext}
use Rattle.hs_base.specs.declared.flags.Flags.{Flags}
use Rattle.hs_base.specs.declared.refusal.Refusal.{Refusal}
use Rattle.hs_base.specs.declared.refusal.Refusal.TheVariants.{MatchesEmpty, EmbeddedEnd, PositionLimit, OffsetOrder, UnsupportedFlag, UnsupportedParameter}
use Rattle.hs_base.specs.Chains.{chains_of}
use Rattle.hs_base.specs.EndAssertions.{has_embedded_end}
use Rattle.hs_base.specs.Refusals.{number_of}
use Rattle.hs_base.specs.Spans.{Spans}
use Rattle.hs_base.specs.Trees.{Tree}
use Rattle.hs_expr.specs.Counts.{capped}
use Rattle.hs_support.specs.PieceCounts.{first_excess_of}
use Rattle.hs_support.specs.Support.{supported_flags, supported_parameters, IsOutside, IsLeastOutside}
use Rattle.hs_support.specs.Refused.{AllowsEmpty, HasFlagsFault, flag, parameter, HasRefusal, unsupported, matches_empty, embedded_end, position_limit, offset_order, IsLeast, IsSupported}

-- the first excess, by what is told of it
pub no-excess : (x : Option ℕ) → None ≡ option_map capped x → x ≡ None
no-excess None told = refl
no-excess (Some n) told = absurd (let e : None ≡ Some (capped n) = told in cc)

pub some-excess : (x : Option ℕ) (told : ℕ) → Some told ≡ option_map capped x → (count : ℕ) × (x ≡ Some count) × (told ≡ capped count)
some-excess None told is = absurd (let e : Some told ≡ None = is in cc)
some-excess (Some n) told is = (n, refl, (let e : Some told ≡ Some (capped n) = is in cc))

module _ (flags : Flags) (ext : Ext) where
  flag-below : (other : Refusal) → HasFlagsFault flags ext other → 4 ≤ number_of other
  flag-below other (flag bit outside) = omega arith
  flag-below other (parameter bit outside) = omega arith

  -- a flag's comes first
  pub flag-least : (bit : ℕ) → IsLeastOutside supported_flags flags.0 bit → IsLeast (HasFlagsFault flags ext) (UnsupportedFlag bit)
  flag-least bit outside = record { has = flag bit outside; least = flag-below }

  parameter-below : ((place : ℕ) → IsOutside supported_flags flags.0 place → ⊥) → (other : Refusal) → HasFlagsFault flags ext other → 5 ≤ number_of other
  parameter-below none other (flag bit outside) = absurd (none outside.place outside.outside)
  parameter-below none other (parameter bit outside) = omega arith

  -- else a parameter's
  pub parameter-least : (bit : ℕ) → ((place : ℕ) → IsOutside supported_flags flags.0 place → ⊥) → IsLeastOutside supported_parameters ext.bits bit →
      IsLeast (HasFlagsFault flags ext) (UnsupportedParameter bit)
  parameter-least bit none outside = record { has = parameter bit outside; least = parameter-below none }

  -- else there is none
  pub no-fault : ((place : ℕ) → IsOutside supported_flags flags.0 place → ⊥) → ((place : ℕ) → IsOutside supported_parameters ext.bits place → ⊥) →
      (refusal : Refusal) → HasFlagsFault flags ext refusal → ⊥
  no-fault none none' refusal (flag bit outside) = none outside.place outside.outside
  no-fault none none' refusal (parameter bit outside) = none' outside.place outside.outside

  -- the numbers of faults of flags and parameters come first
  pub fault-number : (refusal : Refusal) → HasFlagsFault flags ext refusal → number_of refusal ≤ 5
  fault-number refusal (flag bit outside) = omega arith
  fault-number refusal (parameter bit outside) = omega arith

  module _ (tree : Tree) where
    fault-below : (number : ℕ) → number ≤ 5 → ((r : Refusal) → HasFlagsFault flags ext r → number ≤ number_of r) → (other : Refusal) → HasRefusal flags ext tree other → number ≤ number_of other
    fault-below number few faults other (unsupported r fault) = faults r fault
    fault-below number few faults other (matches_empty not_allowed spans) = omega arith
    fault-below number few faults other (embedded_end has) = omega arith
    fault-below number few faults other (position_limit above) = omega arith
    fault-below number few faults other (offset_order above) = omega arith

    pub unsupported-least : (refusal : Refusal) → IsLeast (HasFlagsFault flags ext) refusal → IsLeast (HasRefusal flags ext tree) refusal
    unsupported-least refusal is = record {
      has = unsupported refusal is.has;
      least = fault-below (number_of refusal) (fault-number refusal is.has) is.least;
    }

    module _ (supported : (r : Refusal) → HasFlagsFault flags ext r → ⊥) where
      empty-below : (other : Refusal) → HasRefusal flags ext tree other → 6 ≤ number_of other
      empty-below other (unsupported r fault) = absurd (supported r fault)
      empty-below other (matches_empty not_allowed spans) = omega arith
      empty-below other (embedded_end has) = omega arith
      empty-below other (position_limit above) = omega arith
      empty-below other (offset_order above) = omega arith

      pub empty-least : (AllowsEmpty flags → ⊥) → Spans [] true tree 0 0 → IsLeast (HasRefusal flags ext tree) MatchesEmpty
      empty-least not_allowed spans = record { has = matches_empty not_allowed spans; least = empty-below }

      module _ (not_empty : (AllowsEmpty flags → ⊥) → Spans [] true tree 0 0 → ⊥) where
        end-below : (other : Refusal) → HasRefusal flags ext tree other → 7 ≤ number_of other
        end-below other (unsupported r fault) = absurd (supported r fault)
        end-below other (matches_empty not_allowed spans) = absurd (not_empty not_allowed spans)
        end-below other (embedded_end has) = omega arith
        end-below other (position_limit above) = omega arith
        end-below other (offset_order above) = omega arith

        pub end-least : has_embedded_end tree false ≡ true → IsLeast (HasRefusal flags ext tree) EmbeddedEnd
        end-least has = record { has = embedded_end has; least = end-below }

        module _ (no_end : has_embedded_end tree false ≡ false) where
          limit-below : (other : Refusal) → HasRefusal flags ext tree other → 9 ≤ number_of other
          limit-below other (unsupported r fault) = absurd (supported r fault)
          limit-below other (matches_empty not_allowed spans) = absurd (not_empty not_allowed spans)
          limit-below other (embedded_end has) = absurd (cc)
          limit-below other (position_limit above) = omega arith
          limit-below other (offset_order above) = omega arith

          pub limit-least : (count : ℕ) → first_excess_of (chains_of tree) ≡ Some count → IsLeast (HasRefusal flags ext tree) (PositionLimit (capped count))
          limit-least count above = record { has = position_limit above; least = limit-below }

          module _ (few : first_excess_of (chains_of tree) ≡ None) where
            order-below : (other : Refusal) → HasRefusal flags ext tree other → 15 ≤ number_of other
            order-below other (unsupported r fault) = absurd (supported r fault)
            order-below other (matches_empty not_allowed spans) = absurd (not_empty not_allowed spans)
            order-below other (embedded_end has) = absurd (cc)
            order-below other (position_limit {count = count} above) = absurd (let e : None ≡ Some count = sym few ∙ above in cc)
            order-below other (offset_order above) = omega arith

            pub order-least : ext.max_offset < ext.min_offset → IsLeast (HasRefusal flags ext tree) OffsetOrder
            order-least above = record { has = offset_order above; least = order-below }

            pub none-left : ext.min_offset ≤ ext.max_offset → IsSupported flags ext tree
            none-left order other (unsupported r fault) = supported r fault
            none-left order other (matches_empty not_allowed spans) = not_empty not_allowed spans
            none-left order other (embedded_end has) = absurd (cc)
            none-left order other (position_limit {count = count} above) = absurd (let e : None ≡ Some count = sym few ∙ above in cc)
            none-left order other (offset_order above) = absurd (omega arith)
