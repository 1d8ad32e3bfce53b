-- What bytes make of an engine's region wherever its stream stands, where the expression is entered before each.
use Rattle.std.specs.Prelude.{◌≡◌, ◌↔◌, ℕ, ◌+◌, ◌<◌, Bool, true, false, List, ◌++◌, length, replicate, take}
use Rattle.std.specs.Prelude.{Some, slice_get, slice_index}
use Rattle.hs_base.specs.declared.context.Next.TheVariants as after
use Rattle.hs_base.specs.declared.context.Prev.{Prev}
use Rattle.hs_base.specs.Bits.{AreZero}
use Rattle.hs_base.specs.Contexts.{class_of, prev_at}
use Rattle.hs_base.specs.Fields.{Leaves}
use Rattle.hs_base.specs.Trees.{Tree}
use Rattle.hs_engine.specs.Engines.{IsStart, Meaning}
use Rattle.hs_engine.specs.Timeless.{TakesStep}
use Rattle.hs_engine.specs.declared.ends.ByteEnds.{ByteEnds}

-- The bytes behind u, before each of which the expression is entered, lead to its field behind them. It is left before
-- the byte i, where that comes next, and behind it, where nothing is known of what comes next, just where that is told.
pub record IsRunThrough (Field : List ℕ → List Bool → Type 0) (tree : Tree) (u : List ℕ) (entered : List Bool)
    (bytes : List ℕ) (before behind : ℕ → Bool) : Type 0 where
  pub field : Field (u ++ bytes) (entered ++ replicate (length bytes) true)
  pub before_is : (i : ℕ) → i < length bytes →
      (before i ≡ true) ↔ Leaves tree (u ++ take i bytes) (entered ++ replicate i true) (class_of (slice_index bytes i))
  pub behind_is : (i : ℕ) → i < length bytes →
      (behind i ≡ true) ↔ Leaves tree (u ++ take (i + 1) bytes) (entered ++ replicate (i + 1) true) after.Unknown

-- They do so for each history of the old region behind which `prev` stands, wherever it ends.
abbrev pub RunsThrough : Meaning → (old new : List ℕ) → Prev → (bytes : List ℕ) → (before behind : ℕ → Bool) → Type 0
RunsThrough m old new prev bytes before behind =
    (tree : Tree) (u : List ℕ) (entered : List Bool) →
    m.is_for tree →
    length entered ≡ length u →
    prev ≡ prev_at u (length u) →
    m.field old tree u entered →
    IsRunThrough (m.field new tree) tree u entered bytes before behind

-- One byte does, and the new region may stand at any offset.
abbrev pub TakesEntered : Meaning → (old new : List ℕ) → Prev → (byte : ℕ) → ByteEnds → Type 0
TakesEntered m old new prev byte ends = TakesStep m old new prev true byte ends

-- The region of each engine in which all bytes are 0 is that of the empty stream, and may stand at any offset.
pub record IsBlankRegion (m : Meaning) (region : List ℕ) : Type 0 where
  pub starts : IsStart m region
  pub well : (at : ℕ) → m.well region at

abbrev pub AreZerosBlank : {E : Type 0} → (E → Meaning) → (engines : List E) → Type 0
AreZerosBlank {E = E} meaning engines =
    (number : ℕ) (e : E) (region : List ℕ) →
    slice_get engines number ≡ Some e →
    (meaning e).always ≡ false →
    length region ≡ (meaning e).width →
    AreZero region →
    IsBlankRegion (meaning e) region
