-- Where nothing happens for some bytes of a block.
use Rattle.std.specs.Prelude.{ℕ, ◌<◌, ◌≤◌, Bool, not, ◌||◌, List, slice_index}
use Rattle.hs_base.specs.Bits.{AreZero}
use Rattle.hs_engine.specs.Engines.{Meaning, LeavesNothing, Stays}
use Rattle.hs_bits.specs.WordBits.{word_bit}
use Rattle.hs_block.specs.Blocks.{is_blank}

-- before the byte of that place the engine is entered, or its region isn't all 0
abbrev pub is_busy_at : (region : List ℕ) (enters place : ℕ) → Bool
is_busy_at region enters place = word_bit enters place || not (is_blank region)

-- The region is all 0, may stand at any offset and isn't left; it stays over each of the bytes from one on and before
-- another, before which the engine is entered or not.
pub record IsAsleepOver (m : Meaning) (region : List ℕ) (enters : ℕ) (bytes : List ℕ) (from end : ℕ) : Type 0 where
  pub zero : AreZero region
  pub well : (at : ℕ) → m.well region at
  pub leaves_nothing : LeavesNothing m region
  pub stays : (i : ℕ) → from ≤ i → i < end → Stays m region (slice_index bytes i) (word_bit enters i)
