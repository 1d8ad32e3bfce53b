-- The refusals of an expression that go by its flags, its parameters and its tree.
use Rattle.std.specs.Prelude.{◌≡◌, ℕ, ◌<◌, ◌≤◌, true, false, [], Some, bit_and}
use Rattle.hs_base.specs.declared.ext.Ext.{Ext}
use Rattle.hs_base.specs.declared.flags.Flags.{Flags}
use Rattle.hs_base.specs.declared.refusal.Refusal.{Refusal}
use Rattle.hs_base.specs.declared.refusal.Refusal.TheVariants.{UnsupportedFlag, UnsupportedParameter, MatchesEmpty}
use Rattle.hs_base.specs.declared.refusal.Refusal.TheVariants.{EmbeddedEnd, PositionLimit, OffsetOrder}
use Rattle.hs_base.specs.Chains.{chains_of}
use Rattle.hs_base.specs.EndAssertions.{has_embedded_end}
use Rattle.hs_base.specs.Refusals.{number_of}
use Rattle.hs_base.specs.Spans.{Spans}
use Rattle.hs_base.specs.Trees.{Tree}
use Rattle.hs_expr.specs.Counts.{capped}
use Rattle.hs_support.specs.PieceCounts.{first_excess_of}
use Rattle.hs_support.specs.Support.{supported_flags, supported_parameters, IsLeastOutside}

-- the flag ALLOWEMPTY is set (Hyperscan Developer's Reference Guide, `HS_FLAG_ALLOWEMPTY`)
abbrev pub AllowsEmpty : Flags → Type 0
AllowsEmpty flags = bit_and flags.0 16 ≡ 16

-- A flag or a parameter isn't supported; of several, the least one is told.
pub data HasFlagsFault (flags : Flags) (ext : Ext) : Refusal → Type 0 where
  flag : (bit : ℕ) → IsLeastOutside supported_flags flags.0 bit → HasFlagsFault flags ext (UnsupportedFlag bit)
  parameter : (bit : ℕ) →
      IsLeastOutside supported_parameters ext.bits bit →
      HasFlagsFault flags ext (UnsupportedParameter bit)

-- The expression has the refusal.
pub data HasRefusal (flags : Flags) (ext : Ext) (tree : Tree) : Refusal → Type 0 where
  -- a flag or a parameter isn't supported
  unsupported : (refusal : Refusal) → HasFlagsFault flags ext refusal → HasRefusal flags ext tree refusal
  -- it matches the empty text over the stream that has no byte and has ended, and no flag allows that
  matches_empty : (AllowsEmpty flags → ⊥) → Spans [] true tree 0 0 → HasRefusal flags ext tree MatchesEmpty
  -- bytes may be consumed behind an assertion of the stream's end
  embedded_end : has_embedded_end tree false ≡ true → HasRefusal flags ext tree EmbeddedEnd
  -- a piece of its chains has too many positions; those of the first such piece are told
  position_limit : {count : ℕ} →
      first_excess_of (chains_of tree) ≡ Some count →
      HasRefusal flags ext tree (PositionLimit (capped count))
  -- the least end offset is above the greatest
  offset_order : ext.max_offset < ext.min_offset → HasRefusal flags ext tree OffsetOrder

-- The refusal is one of those, and none of them has a lower number.
pub record IsLeast (Has : Refusal → Type 0) (refusal : Refusal) : Type 0 where
  pub has : Has refusal
  pub least : (other : Refusal) → Has other → number_of refusal ≤ number_of other

-- the expression has no refusal
abbrev pub IsSupported : Flags → Ext → Tree → Type 0
IsSupported flags ext tree = (refusal : Refusal) → HasRefusal flags ext tree refusal → ⊥
