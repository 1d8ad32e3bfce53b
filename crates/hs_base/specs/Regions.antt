-- The region of a stream: all that is kept between its bytes, packed into one list of bytes.
--
-- First the header: the offset in 8 bytes, the low one first, and the last 64 bytes of the stream. Then three rows of
-- bits, each in whole bytes: for each single identifier, whether it is reported; for each identifier, whether its pair
-- that ends behind the last byte is reported; and for each, whether only the end would report the one that ends before
-- the last byte. Then the fields of the pieces, for each pattern, chain and piece in order.
use Rattle.std.specs.Prelude.{◌≡◌, ◌↔◌, ℕ, suc, ◌+◌, ◌*◌, ◌/◌, ◌<◌, ◌≤◌, Bool, true, false, List, [], ◌∷◌, ◌++◌, length}
use Rattle.std.specs.Prelude.{map, flat_map, take, drop, replicate, Some, slice_get, slice_index, slice_range}
use Rattle.std.specs.Int.{from_le_bytes, w64}
use Rattle.hs_base.specs.Lists.{Each, IsMember, OneOf}
use Rattle.hs_base.specs.Offsets.{greatest_offset}
use Rattle.hs_base.specs.Chains.{Piece, chains_of}
use Rattle.hs_base.specs.Patterns.{Pattern, is_single}
use Rattle.hs_base.specs.Reports.{IsReport}
use Rattle.hs_base.specs.Settling.{AreRising, IsLeftToEnd}
use Rattle.hs_base.specs.Bits.{has_bit}
use Rattle.hs_base.specs.KeptPieces.{Form, form_of, form_size, IsKeptAs, IsFieldAt}

-- a piece with those before it in its chain, whose first one looks back or not
pub record Place : Type 0 where
  pub looks_back : Bool
  pub pieces : List Piece
  pub piece : Piece

-- the pieces of a chain behind those, in order
abbrev pub places_behind : (looks_back : Bool) → List Piece → List Piece → List Place
places_behind looks_back pieces [] = []
places_behind looks_back pieces (piece ∷ rest) =
    record { looks_back = looks_back; pieces = pieces; piece = piece }
    ∷ places_behind looks_back (pieces ++ piece ∷ []) rest

-- What regions are laid out for: the patterns, their identifiers and the single ones among these, and which chains
-- begin with a piece that looks back.
pub record Plan : Type 0 where
  pub patterns : List Pattern
  pub identifiers : List ℕ
  pub singles : List ℕ
  pub looks_back : List Piece → Bool

-- The identifiers are those of the patterns, rising, and the singles are the single ones among them, rising.
pub record IsPlan (plan : Plan) : Type 0 where
  pub identifiers : AreRising plan.identifiers
  pub named : (id : ℕ) → IsMember id plan.identifiers ↔ OneOf (λ x. x.id ≡ id) plan.patterns
  pub singles : AreRising plan.singles
  pub single : (id : ℕ) → IsMember id plan.singles
      ↔ (IsMember id plan.identifiers × (is_single plan.patterns id ≡ true))

-- the pieces of a pattern
abbrev pub places_of : (looks_back : List Piece → Bool) → Pattern → List Place
places_of looks_back x = flat_map (λ chain. places_behind (looks_back chain) [] chain) (chains_of x.tree)

-- all pieces, for each pattern and chain in order
abbrev pub list_places : Plan → List Place
list_places plan = flat_map (places_of plan.looks_back) plan.patterns

-- what is kept of a piece
abbrev pub place_form : Place → Form
place_form p = form_of p.looks_back p.pieces p.piece

abbrev pub place_size : Place → ℕ
place_size p = form_size (place_form p)

-- Where the parts of a region begin, for so many single identifiers and identifiers.

-- the bytes of a row of so many bits
abbrev pub row_size : ℕ → ℕ
row_size bits = (bits + 7) / 8

abbrev pub history_at : ℕ
history_at = 8

-- how many of the last bytes are kept
abbrev pub history_size : ℕ
history_size = 64

abbrev pub told_at : ℕ
told_at = 72

abbrev pub here_at : (singles : ℕ) → ℕ
here_at singles = told_at + row_size singles

abbrev pub last_at : (singles identifiers : ℕ) → ℕ
last_at singles identifiers = here_at singles + row_size identifiers

abbrev pub fields_at : (singles identifiers : ℕ) → ℕ
fields_at singles identifiers = last_at singles identifiers + row_size identifiers

-- the sums of the first numbers of a list, from a number on: of none, of one, and so on
abbrev pub sums_from : ℕ → List ℕ → List ℕ
sums_from at [] = at ∷ []
sums_from at (n ∷ ns) = at ∷ sums_from (at + n) ns

-- Where the fields begin, by their sizes; behind the last one ends the region.
abbrev pub field_starts : (singles identifiers : ℕ) (sizes : List ℕ) → List ℕ
field_starts singles identifiers sizes = sums_from (fields_at singles identifiers) sizes

-- how many bytes a region has
abbrev pub region_size : (singles identifiers : ℕ) (sizes : List ℕ) → ℕ
region_size singles identifiers sizes = slice_index (field_starts singles identifiers sizes) (length sizes)

-- the number in the first eight bytes
abbrev pub region_offset : (region : List ℕ) → ℕ
region_offset region = from_le_bytes w64 (take history_at region)

-- the last n bytes of u, and zeros before its first
abbrev pub last_bytes : ℕ → List ℕ → List ℕ
last_bytes n u = drop (length u) (replicate n 0 ++ u)

-- A bit for each of a list, from byte `from` on, tells what it has. The others before byte `end` are not set.
pub record AreBitsOf (region : List ℕ) (from end : ℕ) (ids : List ℕ) (Has : ℕ → Type 0) : Type 0 where
  pub each : (i id : ℕ) → slice_get ids i ≡ Some id → (has_bit region (8 * from + i) ≡ true) ↔ Has id
  pub spare : (k : ℕ) → 8 * from + length ids ≤ k → k < 8 * end → has_bit region k ≡ false

module _ (plan : Plan) where
  abbrev pub plan_starts : List ℕ
  plan_starts = field_starts (length plan.singles) (length plan.identifiers) (map place_size (list_places plan))

  abbrev pub plan_size : ℕ
  plan_size = region_size (length plan.singles) (length plan.identifiers) (map place_size (list_places plan))

  abbrev pub plan_here_at : ℕ
  plan_here_at = here_at (length plan.singles)

  abbrev pub plan_last_at : ℕ
  plan_last_at = last_at (length plan.singles) (length plan.identifiers)

  abbrev pub plan_fields_at : ℕ
  plan_fields_at = fields_at (length plan.singles) (length plan.identifiers)

  -- the field of the piece of that number is from the first to before the second byte
  pub record IsPlaced (k : ℕ) (place : Place) (low high : ℕ) : Type 0 where
    pub piece : slice_get (list_places plan) k ≡ Some place
    pub begin : slice_get plan_starts k ≡ Some low
    pub end : slice_get plan_starts (suc k) ≡ Some high

  -- The bytes are the region of the stream u, which may go on.
  pub record IsRegion (u region : List ℕ) : Type 0 where
    pub within : length u ≤ greatest_offset
    pub len : length region ≡ plan_size
    pub bytes : Each (λ b. b < 256) region
    pub offset : region_offset region ≡ length u
    pub history : slice_range region history_at told_at ≡ last_bytes history_size u
    pub told : AreBitsOf region told_at plan_here_at plan.singles
        (λ id. (to : ℕ) × IsReport plan.patterns u false id to)
    pub here : AreBitsOf region plan_here_at plan_last_at plan.identifiers
        (λ id. IsReport plan.patterns u false id (length u))
    pub last : AreBitsOf region plan_last_at plan_fields_at plan.identifiers (λ id. IsLeftToEnd plan.patterns u id)
    pub fields : (k low high : ℕ) (p : Place) → IsPlaced k p low high →
        IsKeptAs (place_form p) p.pieces (slice_range region low high) u

-- the bits from byte `from` on, but for the first so many, are not set before byte `end`
abbrev pub AreSpare : (region : List ℕ) (from count end : ℕ) → Type 0
AreSpare region from count end = (k : ℕ) → 8 * from + count ≤ k → k < 8 * end → has_bit region k ≡ false

-- the history has no byte before the stream's first
abbrev pub HasNoEarlyByte : (region : List ℕ) → Type 0
HasNoEarlyByte region = (i : ℕ) → i + region_offset region < history_size → slice_index region (history_at + i) ≡ 0

-- The header may be one of a region, for so many single identifiers and identifiers: the offset is small enough, the
-- history has no byte before the stream's first, and no spare bit is set.
pub record IsHeader (singles identifiers : ℕ) (region : List ℕ) : Type 0 where
  pub offset : region_offset region ≤ greatest_offset
  pub history : HasNoEarlyByte region
  pub told : AreSpare region told_at singles (here_at singles)
  pub here : AreSpare region (here_at singles) identifiers (last_at singles identifiers)
  pub last : AreSpare region (last_at singles identifiers) identifiers (fields_at singles identifiers)

module _ (plan : Plan) where
  -- The bytes may be a region: they have its length, and its header and each field keep to their rules.
  pub record IsWellFormed (region : List ℕ) : Type 0 where
    pub len : length region ≡ plan_size plan
    pub bytes : Each (λ b. b < 256) region
    pub header : IsHeader (length plan.singles) (length plan.identifiers) region
    pub fields : (k low high : ℕ) (p : Place) → IsPlaced plan k p low high →
        IsFieldAt (place_form p) (slice_range region low high) (region_offset region)
