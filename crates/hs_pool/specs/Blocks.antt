-- What a block of bytes makes of an engine's region wherever its stream stands.
use Rattle.std.specs.Prelude.{◌≡◌, ℕ, ◌+◌, Bool, List, ◌++◌, length, take, slice_index}
use Rattle.hs_base.specs.declared.context.Next.TheVariants as after
use Rattle.hs_base.specs.declared.context.Prev.{Prev}
use Rattle.hs_base.specs.Bits.{AreZero}
use Rattle.hs_base.specs.Contexts.{class_of, prev_at}
use Rattle.hs_base.specs.Fields.{Leaves}
use Rattle.hs_base.specs.Trees.{Tree}
use Rattle.hs_bits.specs.WordBits.{Marks, bits_of}
use Rattle.hs_engine.specs.Engines.{IsQuiet, IsStart, Meaning}
use Rattle.hs_engine.specs.declared.ends.BlockEnds.{BlockEnds}

-- The bytes behind u, before which the expression is entered where the word tells it, lead to its field behind them,
-- and the words of the ends tell where it is left: before a byte, where that comes next, and behind a byte, where
-- nothing is known of what comes next.
pub record IsBlockTaken (Field : List ℕ → List Bool → Type 0) (tree : Tree) (u : List ℕ) (entered : List Bool)
    (bytes : List ℕ) (enters : ℕ) (ends : BlockEnds) : Type 0 where
  pub field : Field (u ++ bytes) (entered ++ bits_of enters (length bytes))
  pub before_is : Marks (length bytes) ends.before
      (λ i. Leaves tree (u ++ take i bytes) (entered ++ bits_of enters i) (class_of (slice_index bytes i)))
  pub behind_is : Marks (length bytes) ends.behind
      (λ i. Leaves tree (u ++ take (i + 1) bytes) (entered ++ bits_of enters (i + 1)) after.Unknown)

-- They do so for each history of the old region behind which `prev` stands, wherever it ends; and the new region may
-- stand at any offset.
pub record TakesBlock (m : Meaning) (old new : List ℕ) (prev : Prev) (enters : ℕ) (bytes : List ℕ) (ends : BlockEnds) :
    Type 0 where
  pub len : length new ≡ length old
  pub well : (at : ℕ) → m.well new at
  pub takes : (tree : Tree) (u : List ℕ) (entered : List Bool) →
      m.is_for tree →
      length entered ≡ length u →
      prev ≡ prev_at u (length u) →
      m.field old tree u entered →
      IsBlockTaken (m.field new tree) tree u entered bytes enters ends

-- Nothing is live in a region in which all bytes are 0: it is that of the empty stream, and may stand at any offset.
pub record IsIdleRegion (m : Meaning) (region : List ℕ) : Type 0 where
  pub starts : IsStart m region
  pub quiet : IsQuiet m region
  pub well : (at : ℕ) → m.well region at

abbrev pub AreZerosIdle : Meaning → Type 0
AreZerosIdle m = (region : List ℕ) → length region ≡ m.width → AreZero region → IsIdleRegion m region
