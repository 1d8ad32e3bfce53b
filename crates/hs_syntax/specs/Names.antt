-- The classes of bytes that have a name or a letter (PCRE pattern syntax, "Generic character types" and "POSIX
-- character classes").
use Rattle.std.specs.Prelude.{ℕ, ◌+◌, Bool, true, false, not, ◌==◌, ◌&&◌, ◌||◌, nat_eq, nat_le, nat_lt, Option, Some}
use Rattle.std.specs.Prelude.{None, if◌then◌else◌, option_map, List, [], ◌∷◌, codes, drop, slice_get}
use Rattle.std.specs.Char.{is_ascii_alphabetic, is_ascii_alphanumeric, is_ascii_lowercase, is_ascii_uppercase}
use Rattle.std.specs.Int.{is_in_range}
use Rattle.std.specs.Option.{option_or}
use Rattle.hs_base.specs.Assertions.{is_word_byte}
use Rattle.hs_base.specs.ByteSets.{is_digit, is_space}
use Rattle.hs_syntax.specs.declared.named.Named.{Named}
use Rattle.hs_syntax.specs.declared.named.Named.TheVariants.{Digit, Word, Space, HorizontalSpace, VerticalSpace, Letter}
use Rattle.hs_syntax.specs.declared.named.Named.TheVariants.{SmallLetter, LargeLetter, LetterOrDigit, HexadecimalDigit}
use Rattle.hs_syntax.specs.declared.named.Named.TheVariants.{Blank, Control, Ascii, Graphic, Printed, Punctuation}
use Rattle.hs_syntax.specs.Bytes.{◌∈◌, is_byte, letters_on, word_bytes_on}
use Rattle.hs_syntax.specs.Bytes as tests
use lib.Pointwise.{pointwise}
use Prim.Native.String.{String}

-- the bytes of each class
unfoldable pub is_of : Named → ℕ → Bool
is_of Digit b = is_digit b
is_of Word b = is_word_byte b
is_of Space b = is_space b
is_of HorizontalSpace b = (b == 0x09) || ((b == 0x20) || (b == 0xA0))
is_of VerticalSpace b = is_in_range 0x0A 0x0D b || (b == 0x85)
is_of Letter b = is_ascii_alphabetic b
is_of SmallLetter b = is_ascii_lowercase b
is_of LargeLetter b = is_ascii_uppercase b
is_of LetterOrDigit b = is_ascii_alphanumeric b
is_of HexadecimalDigit b = is_digit b || (is_in_range 97 102 b || is_in_range 65 70 b)
is_of Blank b = (b == 0x09) || (b == 0x20)
is_of Control b = nat_le b 0x1F || (b == 0x7F)
is_of Ascii b = nat_le b 0x7F
is_of Graphic b = is_in_range 0x21 0x7E b
is_of Printed b = is_in_range 0x20 0x7E b
is_of Punctuation b = is_in_range 0x21 0x7E b && not (is_ascii_alphanumeric b)

-- the code points of each class that aren't ASCII, by the first and the last of some in a row
unfoldable pub ranges_beyond : Named → List (ℕ × ℕ)
ranges_beyond HorizontalSpace =
    (0xA0, 0xA0) ∷ (0x1680, 0x1680) ∷ (0x180E, 0x180E) ∷ (0x2000, 0x200A) ∷ (0x202F, 0x202F) ∷ (0x205F, 0x205F)
    ∷ (0x3000, 0x3000) ∷ []
ranges_beyond VerticalSpace = (0x85, 0x85) ∷ (0x2028, 0x2029) ∷ []
ranges_beyond other = []

-- the class of a letter behind a backslash, small or large
unfoldable pub named_letter : ℕ → Option Named
named_letter b =
    if b ∈ "dD" then Some Digit
    else if b ∈ "wW" then Some Word
    else if b ∈ "sS" then Some Space
    else if b ∈ "hH" then Some HorizontalSpace
    else if b ∈ "vV" then Some VerticalSpace
    else None

-- the bytes are this word
abbrev pub spells : String → List ℕ → Bool
spells word bytes = pointwise nat_eq bytes (codes word)

-- the names that speak of letters and digits
unfoldable pub letter_class : List ℕ → Option Named
letter_class name =
    if spells "xdigit" name then Some HexadecimalDigit
    else if spells "alpha" name then Some Letter
    else if spells "lower" name then Some SmallLetter
    else if spells "upper" name then Some LargeLetter
    else if spells "digit" name then Some Digit
    else if spells "alnum" name then Some LetterOrDigit
    else if spells "word" name then Some Word
    else None

-- and the others
unfoldable pub other_class : List ℕ → Option Named
other_class name =
    if spells "space" name then Some Space
    else if spells "blank" name then Some Blank
    else if spells "cntrl" name then Some Control
    else if spells "ascii" name then Some Ascii
    else if spells "graph" name then Some Graphic
    else if spells "print" name then Some Printed
    else if spells "punct" name then Some Punctuation
    else None

-- letters of one case
abbrev pub is_of_one_case : Named → Bool
is_of_one_case SmallLetter = true
is_of_one_case LargeLetter = true
is_of_one_case other = false

-- under i the small and the large letters are all letters
abbrev pub under_case : (caseless : Bool) → Named → Named
under_case caseless class = if caseless && is_of_one_case class then Letter else class

-- `[:name:]`
abbrev pub class_of_name : (caseless : Bool) → List ℕ → Option Named
class_of_name caseless name = option_map (under_case caseless) (option_or (letter_class name) (other_class name))

-- the byte `]`
abbrev pub closing_bracket : ℕ
closing_bracket = 0x5D

-- One or more small letters from a place on, and behind them this mark and a `]`: the place of the mark.
unfoldable pub name_end : (mark : ℕ) → (bytes : List ℕ) → (at : ℕ) → Option ℕ
name_end mark bytes at =
    let end = letters_on at (drop at bytes) in
    if nat_lt at end && (is_byte mark (slice_get bytes end) && is_byte closing_bracket (slice_get bytes (end + 1)))
    then Some end
    else None

-- The name of a group from a place on, 1 to 32 word bytes of which the first is no digit, and behind it this mark: the
-- place behind the mark.
unfoldable pub group_name_end : (mark : ℕ) → (bytes : List ℕ) → (at : ℕ) → Option ℕ
group_name_end mark bytes at =
    let end = word_bytes_on at (drop at bytes) in
    if nat_lt at end
    && (nat_le end (at + 32) && (not (tests.is_digit (slice_get bytes at)) && is_byte mark (slice_get bytes end)))
    then Some (end + 1)
    else None
