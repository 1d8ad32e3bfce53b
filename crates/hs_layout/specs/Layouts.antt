-- Where the parts of a region lie, and what is written into it.
use Rattle.std.specs.Prelude.{◌≡◌, ℕ, ◌+◌, ◌-◌, ◌/◌, ◌^◌, ◌<◌, ◌≤◌, Bool, List, ◌++◌, length, take, drop, slice_index}
use Rattle.std.specs.Prelude.{slice_range}
use Rattle.std.specs.Borrow.{Array, Fml, Lends, MutBor, u8}
use Rattle.hs_base.specs.Bits.{has_bit}
use Rattle.hs_base.specs.Regions.{fields_at, field_starts}

-- A layout: so many single identifiers and identifiers, and where the fields begin; behind the last one ends the
-- region.
pub record Laid : Type 0 where
  pub singles : ℕ
  pub identifiers : ℕ
  pub starts : List ℕ

abbrev pub laid : (singles identifiers : ℕ) (starts : List ℕ) → Laid
laid singles identifiers starts = record { singles = singles; identifiers = identifiers; starts = starts }

-- the layout of fields of these sizes
abbrev pub layout_of : (singles identifiers : ℕ) (sizes : List ℕ) → Laid
layout_of singles identifiers sizes = laid singles identifiers (field_starts singles identifiers sizes)

-- how many bytes its regions have
abbrev pub laid_size : Laid → ℕ
laid_size l = slice_index l.starts (length l.starts - 1)

-- the bytes of the field of that number
abbrev pub field_bytes : Laid → (region : List ℕ) (k : ℕ) → List ℕ
field_bytes l region k = slice_range region (slice_index l.starts k) (slice_index l.starts (k + 1))

-- The fields lie one behind the other, the first one behind the header.
pub record AreApart (l : Laid) : Type 0 where
  pub some : 0 < length l.starts
  pub first : slice_index l.starts 0 ≡ fields_at l.singles l.identifiers
  pub rising : (j k : ℕ) → j ≤ k → k < length l.starts → slice_index l.starts j ≤ slice_index l.starts k
  pub header : fields_at l.singles l.identifiers ≤ laid_size l
  pub small : laid_size l ≤ 2 ^ 24

-- the region with these bytes from `low` to before `high`
abbrev pub with_part : (region : List ℕ) (low high : ℕ) (bytes : List ℕ) → List ℕ
with_part region low high bytes = take low region ++ (bytes ++ drop high region)

-- the region with these bytes in the place of the field of that number
abbrev pub with_field : Laid → (region : List ℕ) (k : ℕ) (bytes : List ℕ) → List ℕ
with_field l region k = with_part region (slice_index l.starts k) (slice_index l.starts (k + 1))

-- the region ends with the last bytes behind the result in the place of those from `low` to before `high`
abbrev pub LendsPart : (region : MutBor (List ℕ)) (low high : ℕ) (result : MutBor (List ℕ)) → Fml
LendsPart region low high result = Lends (Array u8 0) (Array u8 0) region result (with_part region.now low high)

-- and in the place of the field of that number
abbrev pub LendsField : Laid → (region : MutBor (List ℕ)) (k : ℕ) (result : MutBor (List ℕ)) → Fml
LendsField l region k result = Lends (Array u8 0) (Array u8 0) region result (with_field l region.now k)

-- The bit of that number is written, and every other one is as before, as is every other byte.
pub record IsBitWritten (bit : ℕ) (value : Bool) (before now : List ℕ) : Type 0 where
  pub len : length now ≡ length before
  pub here : has_bit now bit ≡ value
  pub others : (k : ℕ) → (k ≡ bit → ⊥) → has_bit now k ≡ has_bit before k
  pub bytes : (i : ℕ) → (i ≡ bit / 8 → ⊥) → slice_index now i ≡ slice_index before i
