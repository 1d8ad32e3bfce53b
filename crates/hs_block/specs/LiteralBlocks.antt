-- Literals over a block of bytes, by words.
use Rattle.std.specs.Prelude.{◌≡◌, ◌↔◌, ℕ, suc, ◌+◌, ◌-◌, ◌<◌, Bool, true, ◌&&◌, nat_lt, List, ◌++◌, length}
use Rattle.std.specs.Prelude.{if◌then◌else◌}
use Rattle.hs_base.specs.Lists.{Each}
use Rattle.hs_base.specs.Literals.{LiteralByte}
use Rattle.hs_base.specs.LiteralEnds.{EndsAt}
use Rattle.hs_base.specs.LiteralRows.{TellsEntries}
use Rattle.hs_base.specs.Chains.{lit, piece_tree}
use Rattle.hs_block.specs.declared.literal.Hits.{Hits}
use Rattle.hs_block.specs.declared.literal.LiteralRun.{LiteralRun}
use Rattle.hs_bits.specs.WordBits.{word_bit, one_later}
use Rattle.hs_block.specs.Scans.{Scans}

-- the bits of a literal of n bytes the other way round: the first one tells of the entry that is farthest back
abbrev pub turned : (n : ℕ) (bit : ℕ → Bool) → ℕ → Bool
turned n bit k = nat_lt k n && bit (n - suc k)

-- The word tells of the entries of a literal of n bytes that still count: bit i of the one n - i bytes before the end.
abbrev pub TellsCarried : (n carry : ℕ) (u : List ℕ) (entered : List Bool) → Type 0
TellsCarried n carry u entered = TellsEntries n (turned n (word_bit carry)) u entered

-- a literal of n bytes was entered so many bytes before that place of the block: in the block, or before it
abbrev pub was_entered : (n enters carry place : ℕ) → Bool
was_entered n enters carry place = if nat_lt place n then word_bit carry place else word_bit enters (place - n)

-- the literal ends behind so many bytes of the block
abbrev pub is_hit : Hits → ℕ → Bool
is_hit hits = one_later hits.at_start (word_bit hits.behind)

-- The hits tell where the literal ends in a block.
abbrev pub AreHits : Hits → List LiteralByte → (u bytes : List ℕ) → Type 0
AreHits hits literal u bytes =
    (i : ℕ) → i < length bytes + 1 → (is_hit hits i ≡ true) ↔ EndsAt literal (u ++ bytes) (length u + i)

-- For each literal of so many bytes and each block of so many, where the one word tells of the entries before it and
-- the hits are its ends: the other one tells of the entries behind it, and the ends of where it is left.
abbrev pub RunsLiteral : (len : ℕ) → Hits → (enters carry count : ℕ) → LiteralRun → Type 0
RunsLiteral len hits enters carry count run =
    (literal : List LiteralByte) (u bytes : List ℕ) (entered : List Bool) →
    length literal ≡ len →
    length bytes ≡ count →
    length entered ≡ length u →
    Each (λ b. b < 256) (u ++ bytes) →
    TellsCarried len carry u entered →
    AreHits hits literal u bytes →
    Scans (TellsCarried len run.carry) (piece_tree (lit literal)) u entered bytes enters run.ends.before run.ends.behind
