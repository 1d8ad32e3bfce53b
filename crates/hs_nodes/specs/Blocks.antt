-- The blocks of a chunk of bytes.
use Rattle.std.specs.Prelude.{◌≡◌, ℕ, zero, suc, ◌+◌, ◌*◌, ◌/◌, ◌==◌, List, ◌++◌, length, take, drop}
use Rattle.hs_base.specs.declared.context.Prev.{Prev}
use Rattle.hs_base.specs.declared.context.Prev.TheVariants as before
use Rattle.hs_base.specs.Assertions.{line_feed, is_word_byte}
use Rattle.hs_base.specs.Contexts.{prev_at, prev_by}
use Rattle.hs_base.specs.Regions.{last_bytes}

-- The bytes of the block of that number: 64 of the chunk, or those that are left.
unfoldable pub block : (bytes : List ℕ) (number : ℕ) → List ℕ
block bytes number = take 64 (drop (64 * number) bytes)

-- The stream before that block, where the chunk comes behind u.
unfoldable pub front : (u bytes : List ℕ) (number : ℕ) → List ℕ
front u bytes number = u ++ take (64 * number) bytes

-- how many blocks so many bytes are
abbrev pub block_count : ℕ → ℕ
block_count count = (count + 63) / 64

-- The stream u ends at that offset, behind that.
pub record EndsBehind (u : List ℕ) (prev : Prev) (at : ℕ) : Type 0 where
  pub offset : at ≡ length u
  pub behind : prev ≡ prev_at u (length u)

-- what stands where so many bytes have come, and that was the last one
abbrev pub prev_by_count : (count last : ℕ) → Prev
prev_by_count zero last = before.Start
prev_by_count (suc count) last = prev_by (last == line_feed) (is_word_byte last)

-- the bytes are the last 64 of the stream u, behind zeros where it has fewer
abbrev pub IsPast : (past u : List ℕ) → Type 0
IsPast past u = past ≡ last_bytes 64 u
