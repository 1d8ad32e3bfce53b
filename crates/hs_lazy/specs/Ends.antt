-- Where the members of an automaton are left in a chunk.
use Rattle.std.specs.Prelude.{◌≡◌, ℕ, ◌<◌, ◌≤◌, Bool, false, ◌&&◌, nat_lt}
use Rattle.std.specs.Prelude.{List, Option, Some, None, length, slice_get, slice_index}
use Rattle.hs_base.specs.Bits.{has_word_bit}
use Rattle.hs_lazy.specs.declared.cache.ToldEnds.{ToldEnds}
use Rattle.hs_lazy.specs.declared.parts.EndSet.{EndSet}
use Rattle.hs_lazy.specs.Parts.{before_of, behind_of, ends_of, set_of}

-- there is a bit for each byte of a chunk
pub record IsRowWhole (row : ToldEnds) : Type 0 where
  pub before : length row.before ≡ 8
  pub behind : length row.behind ≡ 8

abbrev pub row_before : Option ToldEnds → ℕ → Bool
row_before None i = false
row_before (Some row) i = has_word_bit row.before i

abbrev pub row_behind : Option ToldEnds → ℕ → Bool
row_behind None i = false
row_behind (Some row) i = has_word_bit row.behind i

-- the member is left before the byte i, or behind it
abbrev pub member_left_before : (rows : List ToldEnds) (member i : ℕ) → Bool
member_left_before rows m i = row_before (slice_get rows m) i

abbrev pub member_left_behind : (rows : List ToldEnds) (member i : ℕ) → Bool
member_left_behind rows m i = row_behind (slice_get rows m) i

-- The table has just the ends of so many steps of a trace.
pub record AreTraceEnds (sets : List EndSet) (trace : List ℕ) (count : ℕ) (rows : List ToldEnds) : Type 0 where
  pub before : (m i : ℕ) → m < 256 →
      member_left_before rows m i ≡ (nat_lt i count && before_of (set_of sets (ends_of (slice_index trace i))) m)
  pub behind : (m i : ℕ) → m < 256 →
      member_left_behind rows m i ≡ (nat_lt i count && behind_of (set_of sets (ends_of (slice_index trace i))) m)

-- none of the steps from the first place on, up to the other, leaves a member
abbrev pub AreSilent : (trace : List ℕ) (first past : ℕ) → Type 0
AreSilent trace first past = (i : ℕ) → first ≤ i → i < past → slice_index trace i < 65536

-- the step of that place leaves a member, and none from the first place on does before it
pub record IsNextEnding (trace : List ℕ) (first count place : ℕ) : Type 0 where
  pub from : first ≤ place
  pub within : place < count
  pub leaves : 65536 ≤ slice_index trace place
  pub silent : AreSilent trace first place
