-- Before which bytes an engine has to be entered, where it might be before each: an entry of which nothing comes may be
-- left out.
use Rattle.std.specs.Prelude.{◌≡◌, ◌↔◌, ℕ, zero, suc, ◌<◌, ◌≤◌, Bool, true, List, [], ◌∷◌, ◌++◌, length}
use Rattle.std.specs.Prelude.{EachIndex, Some, replicate, slice_get, slice_index, take}
use Rattle.hs_base.specs.declared.byte_set.ByteSet.{ByteSet}
use Rattle.hs_base.specs.declared.context.Next.{Next}
use Rattle.hs_base.specs.declared.context.Prev.{Prev}
use Rattle.hs_base.specs.ByteSets.{members}
use Rattle.hs_base.specs.Contexts.{prev_at}
use Rattle.hs_base.specs.Fields.{Leaves}
use Rattle.hs_base.specs.RepeatRows.{IsUnbroken}
use Rattle.hs_base.specs.Trees.{Tree}
use Rattle.hs_engine.specs.Engines.{Meaning}
use Rattle.hs_waking.specs.declared.prev_set.PrevSet.{PrevSet}
use Rattle.hs_waking.specs.Fits.{FitsAt}
use Rattle.hs_waking.specs.WakeRows.{AreWakeRows, IsWakeRow}

-- whether it is entered before each of so many bytes
abbrev pub entries_to : (kept : ℕ → Bool) (count : ℕ) → List Bool
entries_to kept zero = []
entries_to kept (suc n) = entries_to kept n ++ kept n ∷ []

-- Where an engine is entered before these of the bytes behind `prev` alone, its field behind them is that where it is
-- entered before each, and it is left in them just where it is left then.
pub record DoEntriesSuffice (m : Meaning) (kept : ℕ → Bool) (prev : Prev) (bytes : List ℕ) : Type 0 where
  pub field : (tree : Tree) (u region : List ℕ) (entered : List Bool) →
      m.is_for tree →
      length entered ≡ length u →
      prev ≡ prev_at u (length u) →
      m.field region tree (u ++ bytes) (entered ++ entries_to kept (length bytes)) →
      m.field region tree (u ++ bytes) (entered ++ replicate (length bytes) true)
  pub leaves : (tree : Tree) (u : List ℕ) (entered : List Bool) →
      m.is_for tree →
      length entered ≡ length u →
      prev ≡ prev_at u (length u) →
      (i : ℕ) →
      i ≤ length bytes →
      (next : Next) →
      Leaves tree (u ++ take i bytes) (entered ++ entries_to kept i) next ↔
      Leaves tree (u ++ take i bytes) (entered ++ replicate i true) next

-- The row fits before no other of the bytes.
abbrev pub KeepsFits : PrevSet → (row : List ByteSet) → (kept : ℕ → Bool) → Prev → (bytes : List ℕ) → Type 0
KeepsFits behind row kept prev bytes =
    (i : ℕ) → i < length bytes → FitsAt behind row prev bytes i → kept i ≡ true

-- It suffices that the engine is entered where the row fits behind what may stand before it.
abbrev pub IsEntryRow : Meaning → PrevSet → (row : List ByteSet) → Type 0
IsEntryRow m behind row =
    (kept : ℕ → Bool) (prev : Prev) (bytes : List ℕ) →
    EachIndex bytes (λ k. slice_index bytes k < 256) →
    KeepsFits behind row kept prev bytes →
    DoEntriesSuffice m kept prev bytes

-- What a row tells of an engine: bytes in which it fits nowhere wake nothing, and no entry counts where it doesn't fit.
pub record TellsBeginnings (m : Meaning) (behind : PrevSet) (row : List ByteSet) : Type 0 where
  pub wakes : IsWakeRow m behind row
  pub enters : IsEntryRow m behind row

-- None of the rows fits before another of the bytes.
abbrev pub KeepsSomeFits : PrevSet → (rows : List (List ByteSet)) → (kept : ℕ → Bool) → Prev → (bytes : List ℕ) → Type 0
KeepsSomeFits behind rows kept prev bytes =
    (k i : ℕ) (row : List ByteSet) →
    slice_get rows k ≡ Some row →
    i < length bytes →
    FitsAt behind row prev bytes i →
    kept i ≡ true

-- It suffices that the engine is entered where one of the rows fits behind what may stand before it.
abbrev pub AreEntryRows : Meaning → PrevSet → (rows : List (List ByteSet)) → Type 0
AreEntryRows m behind rows =
    (kept : ℕ → Bool) (prev : Prev) (bytes : List ℕ) →
    EachIndex bytes (λ k. slice_index bytes k < 256) →
    KeepsSomeFits behind rows kept prev bytes →
    DoEntriesSuffice m kept prev bytes

-- What rows tell of an engine: bytes in which none of them fits wake nothing, and no entry counts where none fits.
pub record TellBeginnings (m : Meaning) (behind : PrevSet) (rows : List (List ByteSet)) : Type 0 where
  pub wakes : AreWakeRows m behind rows
  pub enters : AreEntryRows m behind rows

-- The engine runs repeats of one set of bytes: what its regions say, and where it is left, goes by the entries behind
-- which no byte outside of the set stands.
pub record RunsBySet (m : Meaning) (set : ByteSet) : Type 0 where
  pub field : (region : List ℕ) (tree : Tree) (u : List ℕ) (entered other : List Bool) →
      m.is_for tree →
      ((q : ℕ) → IsUnbroken (members set) u entered q ↔ IsUnbroken (members set) u other q) →
      m.field region tree u entered →
      m.field region tree u other
  pub leaves : (tree : Tree) (u : List ℕ) (entered other : List Bool) (next : Next) →
      m.is_for tree →
      ((q : ℕ) → IsUnbroken (members set) u entered q → IsUnbroken (members set) u other q) →
      Leaves tree u entered next →
      Leaves tree u other next
