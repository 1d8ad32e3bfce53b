-- What holds of the words that a block tells.
use Rattle.std.specs.Prelude.{◌≡◌, ℕ, ◌-◌, ◌<◌, ◌≤◌, ◌^◌, Bool, ◌||◌, List, length}
use Rattle.hs_base.specs.Patterns.{Pattern}
use Rattle.hs_base.specs.Told.{Pair, IsTold, IsNew}
use Rattle.hs_base.specs.Settling.{Kept, Ends}
use Rattle.hs_reports.specs.WordBits.{word_bit, row_bit}
use Rattle.hs_reports.specs.Chunks.{kept_behind, chunk_pairs, AreChunkOf}
use Rattle.hs_reports.specs.Telling.{AreTellingWords, IsToldBefore, is_telling, AreBlockWords}

-- What the words of the concerned identifiers tell are the new reports of the block.
abbrev pub BlockIsNew : Type 0
BlockIsNew =
    (P : List Pattern) (u bytes ids : List ℕ) (single : ℕ → Bool) (old : ℕ → Kept) (ends : ℕ → ℕ → Ends)
    (lates earlies : List ℕ) (told : List Pair) →
    length bytes ≤ 64 →
    AreChunkOf P u bytes ids single old ends →
    AreBlockWords ids single old ends lates earlies →
    IsTold P u told →
    IsNew P u bytes (chunk_pairs ids (row_bit lates) (row_bit earlies) (length u) (length bytes))

-- Behind the block a pair of the identifier is told if one was before, or its words tell one; and its pair that ends
-- behind the last byte is, if its bit is set.
abbrev pub WordsAreKept : Type 0
WordsAreKept =
    (single : Bool) (kept : Kept) (ends : ℕ → Ends) (late early n : ℕ) →
    0 < n →
    n ≤ 64 →
    late < 2 ^ 64 →
    early < 2 ^ 64 →
    AreTellingWords single kept ends late early →
    IsToldBefore n late early →
    ((kept_behind single kept ends n).told ≡ (kept.told || is_telling late early))
    × ((kept_behind single kept ends n).here ≡ word_bit early (n - 1))
