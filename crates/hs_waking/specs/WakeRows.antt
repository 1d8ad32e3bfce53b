-- What a row of sets tells of an engine: over bytes in which it fits nowhere the engine sleeps.
use Rattle.std.specs.Prelude.{◌≡◌, ℕ, ◌<◌, ◌≤◌, Bool, true, List, ◌++◌, length, take, replicate, EachIndex}
use Rattle.std.specs.Prelude.{Some, slice_get, slice_index}
use Rattle.hs_base.specs.declared.byte_set.ByteSet.{ByteSet}
use Rattle.hs_base.specs.declared.context.Next.{Next}
use Rattle.hs_base.specs.declared.context.Prev.{Prev}
use Rattle.hs_base.specs.Contexts.{prev_at}
use Rattle.hs_base.specs.Fields.{Leaves}
use Rattle.hs_base.specs.Trees.{Tree}
use Rattle.hs_engine.specs.Engines.{Meaning, IsStart}
use Rattle.hs_waking.specs.declared.prev_set.PrevSet.{PrevSet}
use Rattle.hs_waking.specs.Fits.{FitsNowhere}

-- The region stays over the bytes behind `prev`, before each of which the expression is entered, and the expression
-- isn't left before any of them or behind the last.
pub record SleepsOver (m : Meaning) (region : List ℕ) (prev : Prev) (bytes : List ℕ) : Type 0 where
  pub stays : (tree : Tree) (u : List ℕ) (entered : List Bool) →
      m.is_for tree →
      length entered ≡ length u →
      prev ≡ prev_at u (length u) →
      m.field region tree u entered →
      m.field region tree (u ++ bytes) (entered ++ replicate (length bytes) true)
  pub leaves_nothing : (tree : Tree) (u : List ℕ) (entered : List Bool) →
      m.is_for tree →
      length entered ≡ length u →
      prev ≡ prev_at u (length u) →
      m.field region tree u entered →
      (i : ℕ) →
      0 < length bytes →
      i ≤ length bytes →
      (next : Next) → Leaves tree (u ++ take i bytes) (entered ++ replicate i true) next → ⊥

-- Bytes in which the row fits nowhere behind what may stand before it wake nothing, while the region is that of the
-- empty stream.
abbrev pub IsWakeRow : Meaning → PrevSet → (row : List ByteSet) → Type 0
IsWakeRow m behind row =
    (region bytes : List ℕ) (prev : Prev) →
    IsStart m region →
    EachIndex bytes (λ k. slice_index bytes k < 256) →
    FitsNowhere behind row prev bytes →
    SleepsOver m region prev bytes

-- Bytes in which none of the rows fits anywhere behind what may stand before it wake nothing, while the region is that
-- of the empty stream.
abbrev pub AreWakeRows : Meaning → PrevSet → (rows : List (List ByteSet)) → Type 0
AreWakeRows m behind rows =
    (region bytes : List ℕ) (prev : Prev) →
    IsStart m region →
    EachIndex bytes (λ k. slice_index bytes k < 256) →
    ((k : ℕ) (row : List ByteSet) → slice_get rows k ≡ Some row → FitsNowhere behind row prev bytes) →
    SleepsOver m region prev bytes
