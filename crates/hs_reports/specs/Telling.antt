-- What a block tells of an identifier, as words: a bit for each byte.
use Rattle.std.specs.Prelude.{◌≡◌, ℕ, ◌<◌, ◌≤◌, Bool, false, not, ◌&&◌, ◌==◌, List, length}
use Rattle.std.specs.Prelude.{slice_index}
use Rattle.hs_base.specs.Settling.{Kept, Ends, settled}
use Rattle.hs_reports.specs.declared.telling.Telling.{Telling}
use Rattle.hs_reports.specs.WordBits.{word_bit}
use Rattle.hs_reports.specs.Chunks.{late_at, early_at}

-- the words have the ends about each byte
pub record AreEndWords (ends : ℕ → Ends) (before behind : ℕ) : Type 0 where
  pub before_is : (i : ℕ) → i < 64 → word_bit before i ≡ (ends i).before
  pub behind_is : (i : ℕ) → i < 64 → word_bit behind i ≡ (ends i).behind

-- The words tell which pairs each byte decides: that which ends before it, and that which ends behind it.
pub record AreTellingWords (single : Bool) (kept : Kept) (ends : ℕ → Ends) (late early : ℕ) : Type 0 where
  pub late_is : (i : ℕ) → i < 64 → word_bit late i ≡ late_at single kept ends i
  pub early_is : (i : ℕ) → i < 64 → word_bit early i ≡ early_at single kept ends i

-- so they do whatever is known of the identifier that agrees with this
abbrev pub TellsWords : (single told here : Bool) → (before behind : ℕ) → Telling → Type 0
TellsWords single told here before behind telling =
    (kept : Kept) (ends : ℕ → Ends) →
    kept.told ≡ told →
    kept.here ≡ here →
    AreEndWords ends before behind →
    AreTellingWords single kept ends telling.late telling.early

-- nothing is told of bytes from one on
abbrev pub IsToldBefore : ℕ → (late early : ℕ) → Type 0
IsToldBefore n late early = (i : ℕ) → n ≤ i → i < 64 → (word_bit late i ≡ false) × (word_bit early i ≡ false)

-- one of the words has a bit
abbrev pub is_telling : (late early : ℕ) → Bool
is_telling late early = not ((late == 0) && (early == 0))

-- a byte, of which the values are the ends about it, leaves the pair before it to the end
abbrev pub leaves_to_end : (single told here before behind before_last : Bool) → Bool
leaves_to_end single told here before behind before_last =
    (settled single (record { told = told; here = here; last = false })
    (record { before = before; before_last = before_last; behind = behind })).last

-- The words of each identifier, by its number, tell which pairs the bytes of a block decide.
abbrev pub AreBlockWords : (ids : List ℕ) → (single : ℕ → Bool) → (old : ℕ → Kept) → (ends : ℕ → ℕ → Ends) →
    (lates earlies : List ℕ) → Type 0
AreBlockWords ids single old ends lates earlies =
    (k : ℕ) → k < length ids →
    AreTellingWords (single k) (old k) (ends k) (slice_index lates k) (slice_index earlies k)
