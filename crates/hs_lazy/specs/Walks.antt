-- Steps in a row.
use Rattle.std.specs.Prelude.{◌≡◌, ℕ, zero, suc, ◌<◌, List, slice_index, length}
use Rattle.hs_base.specs.declared.context.Prev.{Prev}
use Rattle.hs_lazy.specs.declared.parts.State.{State}
use Rattle.hs_lazy.specs.declared.parts.EndSet.{EndSet}
use Rattle.hs_lazy.specs.declared.parts.Run.{Run}
use Rattle.hs_lazy.specs.Ends.{AreTraceEnds}
use Rattle.hs_lazy.specs.Parts.{IsState, entry, next_of}

-- the state before the byte i, where the first one is `first`
abbrev pub state_before : (first : ℕ) (trace : List ℕ) (i : ℕ) → ℕ
state_before first trace zero = first
state_before first trace (suc i) = next_of (slice_index trace i)

-- the trace has the steps of the bytes before n, which are all known
pub record IsWalk (rows : List ℕ) (first : ℕ) (bytes trace : List ℕ) (n : ℕ) : Type 0 where
  pub is : (i : ℕ) → i < n → slice_index trace i ≡ entry rows (state_before first trace i) (slice_index bytes i)
  pub known : (i : ℕ) → i < n → slice_index trace i ≡ 0 → ⊥

-- A chunk was taken: its steps lead from the loaded image to the last state, and it is told where they leave members.
pub record IsChunkTaken (states : List State) (rows : List ℕ) (ends : List EndSet) (run : Run) (prev : Prev)
    (bytes : List ℕ) : Type 0 where
  pub first : ℕ
  pub starts : IsState states first run.image prev
  pub walk : IsWalk rows first bytes run.trace (length bytes)
  pub count_is : run.count ≡ length bytes
  pub state_is : run.state ≡ state_before first run.trace (length bytes)
  pub some : 0 < length bytes
  pub ended : AreTraceEnds ends run.trace run.count run.ends.rows
