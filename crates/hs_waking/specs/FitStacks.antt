-- The places of a chunk at which a row fits, one set more a level.
use Rattle.std.specs.Prelude.{◌≡◌, ◌↔◌, ℕ, ◌<◌, Bool, true, List, [], length, Option, slice_get, slice_index}
use Rattle.std.specs.Prelude.{slice_index_or}
use Rattle.hs_base.specs.declared.byte_set.ByteSet.{ByteSet}
use Rattle.hs_base.specs.declared.context.Prev.{Prev}
use Rattle.hs_base.specs.Bits.{has_word_bit}
use Rattle.hs_bits.specs.BlockContexts.{prev_before}
use Rattle.hs_waking.specs.Fits.{FitsTo}
use Rattle.hs_waking.specs.PrevSets.{has_prev}
use Rattle.hs_waking.specs.declared.fit_stack.FitStack.{FitStack}
use Rattle.hs_waking.specs.declared.wake_row.WakeRow.{WakeRow}

-- The bits of the places of a chunk are those at which a row may begin and so many of its sets fit.
abbrev pub AreOpen : (begun : ℕ → Bool) (row : ℕ → Option ByteSet) (bytes : List ℕ) (count : ℕ) (places : List ℕ) →
    Type 0
AreOpen begun row bytes count places =
    (p : ℕ) →
    p < 512 →
    (has_word_bit places p ≡ true) ↔ ((p < length bytes) × (begun p ≡ true) × FitsTo row bytes count p)

-- And so for a row by the numbers of its sets.
abbrev pub AreOpenOf : WakeRow → (sets : List ByteSet) → Prev → (bytes : List ℕ) (count : ℕ) (places : List ℕ) →
    Type 0
AreOpenOf row sets prev bytes =
    AreOpen (λ p. has_prev row.behind (prev_before prev bytes p)) (λ d. slice_get sets (slice_index row.numbers d))
    bytes

-- The levels are those of the row in a chunk behind `prev`.
abbrev pub IsStackOf : FitStack → (sets : List ByteSet) → Prev → (bytes : List ℕ) → Type 0
IsStackOf stack sets prev bytes =
    (d : ℕ) → d < stack.count → AreOpenOf stack.row sets prev bytes d (slice_index_or stack.levels d [])
