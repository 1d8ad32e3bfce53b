-- What is read from the tables of an automaton.
use Rattle.std.specs.Prelude.{◌≡◌, ℕ, List, [], Option, Some, None, slice_get}
use Rattle.hs_base.specs.Bits.{has_word_bit}
use Rattle.hs_lazy.specs.declared.parts.Member.{Member}
use Rattle.hs_lazy.specs.declared.parts.State.{State}
use Rattle.hs_lazy.specs.declared.parts.EndSet.{EndSet}
use Rattle.hs_lazy.specs.Parts.{before_of, behind_of, part}

-- the region of a member in a state, if both are there
abbrev pub part_in : Option State → Option Member → List ℕ
part_in None member = []
part_in (Some state) None = []
part_in (Some state) (Some member) = part state.image member

abbrev pub part_at : List State → List Member → (state member : ℕ) → List ℕ
part_at states members state member = part_in (slice_get states state) (slice_get members member)

-- the set has the same members, before the byte and behind it
pub record IsSameSets (kept : Option EndSet) (set : EndSet) : Type 0 where
  pub before : (k : ℕ) → before_of kept k ≡ has_word_bit set.before k
  pub behind : (k : ℕ) → behind_of kept k ≡ has_word_bit set.behind k
