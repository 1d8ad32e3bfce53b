-- Where the literals of a list end in a chunk of bytes, as a table of bits.
use Rattle.std.specs.Prelude.{◌≡◌, ◌↔◌, ℕ, ◌+◌, ◌*◌, ◌^◌, ◌<◌, ◌≤◌, ◌⊎◌, Bool, true, false, not, ◌&&◌, ◌||◌, ◌==◌}
use Rattle.std.specs.Prelude.{nat_lt, List, ◌++◌, length, Some, slice_get}
use Rattle.std.specs.Int.{bit_at}
use Rattle.hs_base.specs.Bits.{has_word_bit}
use Rattle.hs_base.specs.LiteralEnds.{EndsAt}
use Rattle.hs_base.specs.Literals.{LiteralByte}
use Rattle.hs_bits.specs.Marks.{is_marked, mark_room}

-- The literal of that number ends behind so many bytes of the chunk; it may begin in the bytes before.
pub record IsHit (literals : List (List LiteralByte)) (before bytes : List ℕ) (number place : ℕ) : Type 0 where
  pub literal : List LiteralByte
  pub numbered : slice_get literals number ≡ Some literal
  pub within : place ≤ length bytes
  pub ends : EndsAt literal (before ++ bytes) (length before + place)

-- So many literals, a row of 576 bits for each, and a mark for each that ends somewhere.
pub record HitTable : Type 0 where
  pub count : ℕ
  pub rows : List ℕ
  pub marks : List ℕ

abbrev pub hit_table : (count : ℕ) (rows marks : List ℕ) → HitTable
hit_table count rows marks = record { count = count; rows = rows; marks = marks }

-- the literal of that number ends behind so many bytes
abbrev pub is_hit_at : HitTable → (number place : ℕ) → Bool
is_hit_at table number place = nat_lt place 576 && has_word_bit table.rows (576 * number + place)

-- the literal of that number ends somewhere
abbrev pub has_hit : HitTable → ℕ → Bool
has_hit table number = is_marked table.marks number

-- Only literals of the table end somewhere, and only those that are marked.
pub record AreMarked (table : HitTable) : Type 0 where
  pub known : (number : ℕ) → has_hit table number ≡ true → number < table.count
  pub marked : (number place : ℕ) → is_hit_at table number place ≡ true → has_hit table number ≡ true

-- There is room for each literal.
pub record IsHitTable (table : HitTable) : Type 0 where
  pub few : table.count < 2 ^ 32
  pub room : length table.rows ≡ 9 * table.count
  pub mark_room : table.count ≤ mark_room table.marks
  pub are_marked : AreMarked table

-- No literal ends anywhere.
pub record IsBlank (table : HitTable) (count : ℕ) : Type 0 where
  pub count_is : table.count ≡ count
  pub nowhere : (number place : ℕ) → is_hit_at table number place ≡ false
  pub none : (number : ℕ) → has_hit table number ≡ false

-- The table tells just where the literals end in a chunk.
pub record TellsHits (table : HitTable) (literals : List (List LiteralByte)) (before bytes : List ℕ) : Type 0 where
  pub places : (number place : ℕ) → (is_hit_at table number place ≡ true) ↔ IsHit literals before bytes number place
  pub numbers : (number : ℕ) → (has_hit table number ≡ true) ↔ (place : ℕ) × IsHit literals before bytes number place

-- One literal ends at one place more.
pub record AddsHit (old new : HitTable) (number place : ℕ) : Type 0 where
  pub count : new.count ≡ old.count
  pub places : (n p : ℕ) → is_hit_at new n p ≡ (((n == number) && (p == place)) || is_hit_at old n p)
  pub numbers : (n : ℕ) → has_hit new n ≡ ((n == number) || has_hit old n)

-- One literal ends nowhere any more.
pub record Forgets (old new : HitTable) (number : ℕ) : Type 0 where
  pub count : new.count ≡ old.count
  pub places : (n p : ℕ) → is_hit_at new n p ≡ (not (n == number) && is_hit_at old n p)
  pub numbers : (n : ℕ) → has_hit new n ≡ (not (n == number) && has_hit old n)

-- Literals end at these places more.
pub record AddsHits (old new : HitTable) (IsNew : (number place : ℕ) → Type 0) : Type 0 where
  pub count : new.count ≡ old.count
  pub places : (n p : ℕ) → (is_hit_at new n p ≡ true) ↔ (IsNew n p ⊎ (is_hit_at old n p ≡ true))
  pub numbers : (n : ℕ) → (has_hit new n ≡ true) ↔ (((p : ℕ) × IsNew n p) ⊎ (has_hit old n ≡ true))

-- A literal ends behind so many bytes of the chunk.
abbrev pub IsHitAt : List (List LiteralByte) → (before bytes : List ℕ) → (end : ℕ) → (number place : ℕ) → Type 0
IsHitAt literals before bytes end number place = (place ≡ end) × IsHit literals before bytes number place

-- A literal of that bucket does.
abbrev pub IsHitOf : List (List LiteralByte) → (buckets : List ℕ) → (bucket : ℕ) → (before bytes : List ℕ) →
    (end : ℕ) → (number place : ℕ) → Type 0
IsHitOf literals buckets bucket before bytes end number place =
    (slice_get buckets number ≡ Some bucket) × IsHitAt literals before bytes end number place

-- A literal does whose bucket's bit is 0.
abbrev pub IsHitBut : List (List LiteralByte) → (buckets : List ℕ) → (left : ℕ) → (before bytes : List ℕ) →
    (end : ℕ) → (number place : ℕ) → Type 0
IsHitBut literals buckets left before bytes end number place =
    ((bucket : ℕ) → slice_get buckets number ≡ Some bucket → bit_at left bucket ≡ 0)
    × IsHitAt literals before bytes end number place

-- A literal ends behind a byte of the chunk.
abbrev pub IsHitInside : List (List LiteralByte) → (before bytes : List ℕ) → (number place : ℕ) → Type 0
IsHitInside literals before bytes number place = (1 ≤ place) × IsHit literals before bytes number place

-- A literal ends behind a byte of the chunk, and no further than behind so many.
abbrev pub IsHitUpTo : List (List LiteralByte) → (before bytes : List ℕ) → (end : ℕ) → (number place : ℕ) → Type 0
IsHitUpTo literals before bytes end number place = (place ≤ end) × IsHitInside literals before bytes number place
