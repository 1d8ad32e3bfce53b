-- What a block does with a region that is the set of a state's positions, where the expression is entered before each
-- of its bytes.
use Rattle.std.specs.Prelude.{◌≡◌, ◌↔◌, ℕ, ◌+◌, ◌<◌, ◌≤◌, Bool, List, ◌++◌, length, take, Option, Some, None}
use Rattle.hs_base.specs.declared.context.Prev.{Prev}
use Rattle.hs_base.specs.Contexts.{prev_at}
use Rattle.hs_base.specs.PositionRows.{IsField}
use Rattle.hs_base.specs.Trees.{Tree}
use Rattle.hs_base.specs.WrittenOut.{write_out}
use Rattle.hs_bits.specs.WordBits.{bits_of}
use Rattle.hs_engine.specs.declared.ends.BlockEnds.{BlockEnds}
use Rattle.hs_block.specs.Scans.{Scans}
use Rattle.hs_engine.specs.Engines.{Meaning}
use Rattle.hs_engine.specs.Tables.{IsClearFrom}
use Rattle.hs_states.specs.StateSets.{AreSetsOf, IsStateNumber, set_bytes, set_width, state_count}
use Rattle.hs_dfa.specs.DfaEngines.{IsDfaOf}
use Rattle.hs_dfa.specs.declared.set_dfa.SetDfa.{SetDfa}

-- its states are those of the expression, by their numbers and by their sets
pub record IsSetDfaOf (d : SetDfa) (tree : Tree) : Type 0 where
  pub numbers : IsDfaOf d.dfa tree
  pub sets : AreSetsOf d.sets tree

-- every place of a block
abbrev pub everywhere : ℕ
everywhere = 18446744073709551615

-- The region is the field of the expression behind a stream that ends at the offset `at` behind `prev`.
pub record IsSetBehind (d : SetDfa) (region : List ℕ) (prev : Prev) (at : ℕ) (tree : Tree) (u : List ℕ)
    (entered : List Bool) : Type 0 where
  pub runs : IsSetDfaOf d tree
  pub count : length entered ≡ length u
  pub offset : at ≡ length u
  pub behind : prev ≡ prev_at u (length u)
  pub field : IsField region (write_out tree) u entered

-- The region goes from the old set to the new one, from state to state, a step for each byte. For each stream of the
-- old one these are the fields behind its bytes, and the words of the ends tell where the expression is left.
pub record IsSetRun (d : SetDfa) (old new : List ℕ) (prev : Prev) (at : ℕ) (bytes : List ℕ) (ends : BlockEnds)
    (steps_old steps_new : ℕ) : Type 0 where
  pub ticks : steps_new ≡ steps_old + length bytes
  -- the number of the state before each byte of the block, and behind the last
  pub numbers : ℕ → ℕ
  pub within : (i : ℕ) → i ≤ length bytes → numbers i < state_count d.sets
  pub first : set_bytes d.sets (numbers 0) ≡ old
  pub last : set_bytes d.sets (numbers (length bytes)) ≡ new
  pub fields : (tree : Tree) (u : List ℕ) (entered : List Bool) →
      IsSetBehind d old prev at tree u entered →
      (i : ℕ) →
      i ≤ length bytes →
      IsField (set_bytes d.sets (numbers i)) (write_out tree) (u ++ take i bytes) (entered ++ bits_of everywhere i)
  pub scans : (tree : Tree) (u : List ℕ) (entered : List Bool) →
      IsSetBehind d old prev at tree u entered →
      Scans (IsField new (write_out tree)) tree u entered bytes everywhere ends.before ends.behind

-- The region is the set of no state, and nothing has been done; or the block has been taken.
abbrev pub IsSetTried : SetDfa → (old new : List ℕ) → Prev → (at : ℕ) → (bytes : List ℕ) → Option BlockEnds →
    (steps_old steps_new : ℕ) → Type 0
IsSetTried d old new prev at bytes None before after =
    ((number : ℕ) → IsStateNumber d.sets old prev number → ⊥) × (new ≡ old) × (after ≡ before)
IsSetTried d old new prev at bytes (Some ends) before after = IsSetRun d old new prev at bytes ends before after

-- The engine runs expressions whose states these are, and its regions are the sets of their live positions.
pub record RunsSets (m : Meaning) (d : SetDfa) : Type 0 where
  pub width : m.width ≡ set_width d.sets
  pub well : (region : List ℕ) (at : ℕ) → length region ≡ m.width → IsClearFrom region d.size → m.well region at
  pub told : (tree : Tree) → m.is_for tree → IsSetDfaOf d tree
  pub field : (region : List ℕ) (tree : Tree) (u : List ℕ) (entered : List Bool) →
      m.field region tree u entered ↔ IsField region (write_out tree) u entered
