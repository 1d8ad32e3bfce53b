-- Classes of characters (PCRE pattern syntax, "Square brackets and character classes").
use Rattle.std.specs.Prelude.{◌≡◌, ℕ, ◌+◌, ◌-◌, Bool, not, ◌==◌, ◌&&◌, ◌||◌, nat_le, nat_lt, if◌then◌else◌, List, []}
use Rattle.std.specs.Prelude.{◌∷◌, drop, slice_get}
use Rattle.std.specs.Int.{is_in_range}
use Rattle.std.specs.List.{list_any}
use Rattle.hs_base.specs.Assertions.{line_feed}
use Rattle.hs_base.specs.ByteSets.{bytes_where}
use Rattle.hs_base.specs.declared.refusal.Refusal.TheVariants.{Syntax}
use Rattle.hs_syntax.specs.declared.mode.Mode.{Mode}
use Rattle.hs_syntax.specs.declared.named.Named.{Named}
use Rattle.hs_syntax.specs.declared.piece.Piece.{Piece}
use Rattle.hs_syntax.specs.declared.piece.Piece.TheVariants as piece
use Rattle.hs_syntax.specs.Bytes.{is_byte}
use Rattle.hs_syntax.specs.Names.{is_of}
use Rattle.hs_syntax.specs.Pieces.{piece_at}
use Rattle.hs_parse.specs.declared.item.Item.{Item}
use Rattle.hs_parse.specs.declared.item.Item.TheVariants as item
use Rattle.hs_parse.specs.declared.set.Test.{Test}
use Rattle.hs_parse.specs.declared.set.Test.TheVariants.{Any, Range, Class}
use Rattle.hs_parse.specs.Spots.{refusal_at}

-- the byte `-`
abbrev pub hyphen : ℕ
hyphen = 0x2D

-- the byte `^`
abbrev pub circumflex : ℕ
circumflex = 0x5E

-- the same letter in the other case; another byte is itself
unfoldable pub other_case : ℕ → ℕ
other_case b = if is_in_range 65 90 b then b + 32 else if is_in_range 97 122 b then b - 32 else b

-- the code is within a range, both ends included
abbrev pub is_between : ℕ → ℕ → ℕ → Bool
is_between first last code = nat_le first code && nat_le code last

-- a byte of the range, or under i the same letter in the other case
abbrev pub is_within : (caseless : Bool) → ℕ → ℕ → ℕ → Bool
is_within caseless first last b = is_between first last b || (caseless && is_between first last (other_case b))

-- a byte of the class, or one that isn't
abbrev pub is_of_class : Named → (negated : Bool) → ℕ → Bool
is_of_class class negated b = if negated then not (is_of class b) else is_of class b

-- the bytes of a `.` or an item; under i characters and ranges are closed by case, and classes aren't
abbrev pub passes : Test → ℕ → Bool
passes (Any dotall) = (λ b. dotall || not (b == line_feed))
passes (Range caseless first last) = is_within caseless first last
passes (Class class negated) = is_of_class class negated

-- the set of the bytes of an item
unfoldable pub bytes_of : Test → List Bool
bytes_of test = bytes_where (passes test)

-- what stands at a place in the class whose items begin at the start
abbrev pub class_piece : List ℕ → Mode → (start : ℕ) → ℕ → Piece
class_piece text mode start at = piece_at mode (at == start) (drop at text)

-- A character, and behind it a hyphen and a piece: a range, if that is a character that isn't less, else the hyphen is
-- no part of the item.
abbrev pub range_of : (caseless : Bool) → (at code middle : ℕ) → Piece → Item
range_of caseless at code middle piece.End = item.Bytes (Range caseless code code) middle
range_of caseless at code middle piece.Close = item.Bytes (Range caseless code code) middle
range_of caseless at code middle (piece.Character last length) =
    if nat_lt last code then item.Refused (Syntax at) else item.Bytes (Range caseless code last) (middle + 1 + length)
range_of caseless at code middle (piece.Class class negated length) = item.Bytes (Range caseless code code) middle
range_of caseless at code middle (piece.Refused reason) = item.Refused (refusal_at reason (middle + 1))

-- An item, by the piece that stands at its place: a character, a range or a class.
abbrev pub item_of : (caseless : Bool) → (at : ℕ) → (hyphen_behind : ℕ → Bool) → (piece_behind : ℕ → Piece) → Piece →
    Item
item_of caseless at hyphen_behind piece_behind piece.End = item.End
item_of caseless at hyphen_behind piece_behind piece.Close = item.Close
item_of caseless at hyphen_behind piece_behind (piece.Character code length) =
    if hyphen_behind (at + length)
    then range_of caseless at code (at + length) (piece_behind (at + length + 1))
    else item.Bytes (Range caseless code code) (at + length)
item_of caseless at hyphen_behind piece_behind (piece.Class class negated length) =
    item.Bytes (Class class negated) (at + length)
item_of caseless at hyphen_behind piece_behind (piece.Refused reason) = item.Refused (refusal_at reason at)

-- the item at a place in the class whose items begin at the start
unfoldable pub item_at : List ℕ → Mode → (start : ℕ) → ℕ → Item
item_at text mode start at =
    item_of mode.caseless at
    (λ place. is_byte hyphen (slice_get text place))
    (λ place. class_piece text mode start place)
    (class_piece text mode start at)

-- The items of a class, one behind the other, as tests of a character.
pub data Items (text : List ℕ) (mode : Mode) (start : ℕ) : ℕ → List Test → ℕ → Type 0 where
  nothing : {at : ℕ} → Items text mode start at [] at
  item_first : {at middle end : ℕ} {test : Test} {tests : List Test} →
      item_at text mode start at ≡ item.Bytes test middle →
      Items text mode start middle tests end →
      Items text mode start at (test ∷ tests) end

-- the class that begins at the place is of the bytes that none of its items has
abbrev pub is_negated : List ℕ → ℕ → Bool
is_negated text at = is_byte circumflex (slice_get text (at + 1))

-- where its items begin
abbrev pub items_start : List ℕ → ℕ → ℕ
items_start text at = if is_negated text at then at + 2 else at + 1

-- the bytes of a class
unfoldable pub class_of : (negated : Bool) → List Test → List Bool
class_of negated tests =
    bytes_where
    (λ b. if negated then not (list_any (λ test. passes test b) tests) else list_any (λ test. passes test b) tests)
