-- What a block does with the positions that the tables tell of, and with a region that has a bit for each.
use Rattle.std.specs.Prelude.{◌≡◌, ◌↔◌, ℕ, zero, suc, ◌+◌, ◌/◌, Bool, false, ◌&&◌, nat_lt, List, length}
use Rattle.std.specs.Prelude.{Option, Some, None, slice_get}
use Rattle.hs_base.specs.declared.context.Prev.{Prev}
use Rattle.hs_base.specs.Bits.{has_bit}
use Rattle.hs_base.specs.PositionRows.{IsField}
use Rattle.hs_base.specs.Trees.{Tree}
use Rattle.hs_base.specs.WrittenOut.{write_out}
use Rattle.hs_engine.specs.AnyBelow.{any_below}
use Rattle.hs_engine.specs.Automata.{in_mask}
use Rattle.hs_engine.specs.declared.automaton.Automaton.{Automaton}
use Rattle.hs_engine.specs.Engines.{Meaning}
use Rattle.hs_engine.specs.Tables.{IsClearFrom, Runs}
use Rattle.hs_engine.specs.declared.ends.BlockEnds.{BlockEnds}
use Rattle.hs_block.specs.declared.streams.Streams.{Streams}
use Rattle.hs_bits.specs.BlockContexts.{context_before, context_behind}
use Rattle.hs_block.specs.Blocks.{is_busy}
use Rattle.hs_bits.specs.Packed.{packed}
use Rattle.hs_block.specs.Rows.{row}
use Rattle.hs_block.specs.StreamTables.{TellsOf, stream_rules}
use Rattle.hs_bits.specs.WordBits.{word_bit, count_below}

-- the positions that are live before the byte of that place, or behind the last one
abbrev pub stream_row : Streams → Prev → (old : List ℕ) (enters : ℕ) (bytes : List ℕ) (place position : ℕ) → Bool
stream_row s prev old enters bytes i x = row (stream_rules s prev enters bytes) (has_bit old) i x

-- a position is live there that accepts, before the byte there
abbrev pub accepts_before : Streams → Prev → (old : List ℕ) (enters : ℕ) (bytes : List ℕ) (place : ℕ) → Bool
accepts_before s prev old enters bytes i =
    any_below s.size
    (λ x. stream_row s prev old enters bytes i x && in_mask (slice_get s.accepts.items x) (context_before prev bytes i))

-- and behind that byte, where nothing is known of what comes next
abbrev pub accepts_behind : Streams → Prev → (old : List ℕ) (enters : ℕ) (bytes : List ℕ) (place : ℕ) → Bool
accepts_behind s prev old enters bytes i =
    any_below s.size
    (λ x. stream_row s prev old enters bytes (suc i) x
    && in_mask (slice_get s.accepts.items x) (context_behind prev bytes i))

-- the region there: behind a byte it has a bit for each position
abbrev pub stream_part : Streams → Prev → (old : List ℕ) (enters : ℕ) (bytes : List ℕ) (place : ℕ) → List ℕ
stream_part s prev old enters bytes zero = old
stream_part s prev old enters bytes (suc i) =
    packed (length old) (λ x. nat_lt x s.size && stream_row s prev old enters bytes (suc i) x)

-- So many bytes of the block behind `prev` lead from the one region to the other, in so many steps, and the words tell
-- where a position accepts.
pub record IsStreamRun (s : Streams) (prev : Prev) (old new : List ℕ) (enters : ℕ) (bytes : List ℕ) (count : ℕ)
    (ends : BlockEnds) (ticks : ℕ) : Type 0 where
  pub new_is : new ≡ stream_part s prev old enters bytes count
  pub before_is : (i : ℕ) → word_bit ends.before i ≡ (nat_lt i count && accepts_before s prev old enters bytes i)
  pub behind_is : (i : ℕ) → word_bit ends.behind i ≡ (nat_lt i count && accepts_behind s prev old enters bytes i)
  pub ticks_are : ticks ≡ count_below count (is_busy enters (stream_part s prev old enters bytes))

-- Nothing has been done, or the block has been taken.
abbrev pub IsTried : Streams → Prev → (old new : List ℕ) (enters : ℕ) (bytes : List ℕ) (count : ℕ) →
    Option BlockEnds → (steps_old steps_new : ℕ) → Type 0
IsTried s prev old new enters bytes count None before after = (new ≡ old) × (after ≡ before)
IsTried s prev old new enters bytes count (Some ends) before after =
    (ticks : ℕ) × (after ≡ before + ticks) × IsStreamRun s prev old new enters bytes count ends ticks

-- The engine runs expressions of whose automata the tables tell, and its regions have a bit for each position.
pub record RunsStreams (m : Meaning) (s : Streams) : Type 0 where
  pub width : m.width ≡ (s.size + 7) / 8
  pub always : m.always ≡ false
  pub clear : (region : List ℕ) (at : ℕ) → m.well region at ↔ IsClearFrom region s.size
  pub told : (tree : Tree) → m.is_for tree → (a : Automaton) × TellsOf s a × Runs a tree
  pub field : (region : List ℕ) (tree : Tree) (u : List ℕ) (entered : List Bool) →
      m.field region tree u entered ↔ IsField region (write_out tree) u entered
