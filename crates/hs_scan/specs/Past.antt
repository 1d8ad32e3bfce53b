-- What stands before the next byte of a stream.
use Rattle.std.specs.Prelude.{◌≡◌, ℕ, zero, suc, ◌+◌, ◌<◌, ◌==◌, List, slice_index}
use Rattle.hs_base.specs.declared.context.Prev.{Prev}
use Rattle.hs_base.specs.declared.context.Prev.TheVariants as before
use Rattle.hs_base.specs.Assertions.{line_feed, is_word_byte}
use Rattle.hs_base.specs.Contexts.{prev_by}
use Rattle.hs_base.specs.Regions.{history_size}

-- behind so many bytes, of which that is the last one
abbrev pub prev_from : (at last : ℕ) → Prev
prev_from zero last = before.Start
prev_from (suc at) last = prev_by (last == line_feed) (is_word_byte last)

-- no byte stands before the first one of a stream of so many bytes
abbrev pub HasNoEarly : (at : ℕ) (past : List ℕ) → Type 0
HasNoEarly at past = (i : ℕ) → i + at < history_size → slice_index past i ≡ 0

-- That stays so.
abbrev pub KeepsEarly : (at at' : ℕ) (past past' : List ℕ) → Type 0
KeepsEarly at at' past past' = HasNoEarly at past → HasNoEarly at' past'
