-- What stands behind a backslash (PCRE pattern syntax, "Backslash"). Bytes begin with the backslash.
use Rattle.std.specs.Prelude.{ℕ, ◌+◌, ◌-◌, Bool, ◌&&◌, nat_lt, Option, Some, None, if◌then◌else◌, List, drop}
use Rattle.std.specs.Prelude.{slice_get}
use Rattle.std.specs.Char.{is_ascii_alphabetic, is_ascii_uppercase, to_ascii_uppercase}
use Rattle.std.specs.Int.{is_in_range}
use Rattle.hs_base.specs.declared.construct.Construct.{Construct}
use Rattle.hs_base.specs.declared.construct.Construct.TheVariants.{Backreference, Property, NewlineSequence, AnyByte}
use Rattle.hs_base.specs.declared.construct.Construct.TheVariants.{Keep, NotNewline, Grapheme, MatchStart}
use Rattle.hs_base.specs.declared.assertion.Assertion.{Assertion}
use Rattle.hs_base.specs.declared.assertion.Assertion.TheVariants.{StreamStart, EndOrFinalNewline, StreamEnd}
use Rattle.hs_base.specs.declared.assertion.Assertion.TheVariants.{WordBoundary, NotWordBoundary}
use Rattle.hs_syntax.specs.declared.named.Named.{Named}
use Rattle.hs_syntax.specs.declared.wrong.Wrong.TheVariants as wrong
use Rattle.hs_syntax.specs.declared.escape.Escape.{Escape}
use Rattle.hs_syntax.specs.declared.escape.Escape.TheVariants.{Character, Class, Other, Refused}
use Rattle.hs_syntax.specs.declared.number.Number.{Number}
use Rattle.hs_syntax.specs.Bytes.{◌∈◌, is_one_of}
use Rattle.hs_syntax.specs.Numbers.{number_at}
use Rattle.hs_syntax.specs.Characters.{is_code, character_of}
use Rattle.hs_syntax.specs.Names.{named_letter}

-- a letter that stands for one character
unfoldable pub character_letter : ℕ → Option ℕ
character_letter b =
    if b ∈ "a" then Some 0x07
    else if b ∈ "e" then Some 0x1B
    else if b ∈ "f" then Some 0x0C
    else if b ∈ "n" then Some 0x0A
    else if b ∈ "r" then Some 0x0D
    else if b ∈ "t" then Some 0x09
    else None

-- a byte with bit 40 turned over
abbrev pub turned_over : ℕ → ℕ
turned_over b = if nat_lt b 0x40 then b + 0x40 else b - 0x40

-- `\c` and a byte
abbrev pub control_of : Option ℕ → Escape
control_of None = Refused wrong.Syntax
control_of (Some b) =
    if is_in_range 0x20 0x7E b then Character (turned_over (to_ascii_uppercase b)) 3 else Refused wrong.Syntax

-- a character by its code
abbrev pub coded : (utf8 : Bool) → (code : ℕ) → (length : ℕ) → Escape
coded utf8 code length = if is_code utf8 code then Character code length else Refused wrong.Syntax

-- up to two digits behind a letter or a `0`
unfoldable pub short_at : (utf8 : Bool) → (radix : ℕ) → List ℕ → Escape
short_at utf8 radix bytes = let number = number_at radix 2 bytes 2 in coded utf8 number.value (number.count + 2)

-- 1 to 8 digits in braces, by the bytes before and behind them
abbrev pub braced_of : (utf8 : Bool) → (opening closing : Option ℕ) → Number → Escape
braced_of utf8 opening closing number =
    if is_one_of "{" opening && (nat_lt 0 number.count && is_one_of "}" closing)
    then coded utf8 number.value (number.count + 4)
    else Refused wrong.Syntax

-- `\x{..}` and `\o{..}`
unfoldable pub braced_at : (utf8 : Bool) → (radix : ℕ) → List ℕ → Escape
braced_at utf8 radix bytes =
    let number = number_at radix 8 bytes 3 in
    braced_of utf8 (slice_get bytes 2) (slice_get bytes (number.count + 3)) number

-- `\x`
abbrev pub hexadecimal_at : (utf8 : Bool) → List ℕ → Escape
hexadecimal_at utf8 bytes =
    if is_one_of "{" (slice_get bytes 2) then braced_at utf8 16 bytes else short_at utf8 16 bytes

-- a character that stands for itself
abbrev pub itself_of : Option (ℕ × ℕ) → Escape
itself_of None = Refused (wrong.IllFormed 1)
itself_of (Some (code, length)) = Character code (length + 1)

-- a letter, or another character, which stands for itself
abbrev pub letter_of : ℕ → (itself : Option (ℕ × ℕ)) → (character : Option ℕ) → (named : Option Named) → Escape
letter_of b itself (Some code) named = Character code 2
letter_of b itself None (Some class) = Class class (is_ascii_uppercase b)
letter_of b itself None None = if is_ascii_alphabetic b then Other b else itself_of itself

-- what stands behind a backslash, by the byte there
unfoldable pub escape_by : (utf8 : Bool) → List ℕ → ℕ → Escape
escape_by utf8 bytes b =
    if b ∈ "c" then control_of (slice_get bytes 2)
    else if b ∈ "x" then hexadecimal_at utf8 bytes
    else if b ∈ "o" then braced_at utf8 8 bytes
    else if b ∈ "0" then short_at utf8 8 bytes
    else if b ∈ "123456789gk" then Refused (wrong.Unsupported Backreference)
    else if b ∈ "pP" then Refused (wrong.Unsupported Property)
    else letter_of b (character_of utf8 (drop 1 bytes) b) (character_letter b) (named_letter b)

abbrev pub escape_of : (utf8 : Bool) → List ℕ → Option ℕ → Escape
escape_of utf8 bytes None = Refused wrong.Syntax
escape_of utf8 bytes (Some b) = escape_by utf8 bytes b

-- what the bytes begin with, in classes and outside of them
unfoldable pub escape_at : (utf8 : Bool) → List ℕ → Escape
escape_at utf8 bytes = escape_of utf8 bytes (slice_get bytes 1)

-- a letter of a construct that isn't supported, outside of classes
unfoldable pub construct_letter : ℕ → Option Construct
construct_letter b =
    if b ∈ "R" then Some NewlineSequence
    else if b ∈ "C" then Some AnyByte
    else if b ∈ "K" then Some Keep
    else if b ∈ "N" then Some NotNewline
    else if b ∈ "X" then Some Grapheme
    else if b ∈ "G" then Some MatchStart
    else None

-- a letter of an assertion, outside of classes
unfoldable pub assertion_letter : ℕ → Option Assertion
assertion_letter b =
    if b ∈ "A" then Some StreamStart
    else if b ∈ "Z" then Some EndOrFinalNewline
    else if b ∈ "z" then Some StreamEnd
    else if b ∈ "b" then Some WordBoundary
    else if b ∈ "B" then Some NotWordBoundary
    else None
