-- What stands in a class (PCRE pattern syntax, "Square brackets and character classes"). Bytes begin with the piece.
use Rattle.std.specs.Prelude.{ℕ, ◌+◌, ◌-◌, Bool, not, ◌&&◌, Option, Some, None, if◌then◌else◌, List, drop, take}
use Rattle.std.specs.Prelude.{slice_get}
use Rattle.hs_base.specs.declared.construct.Construct.TheVariants.{Collating}
use Rattle.hs_syntax.specs.declared.mode.Mode.{Mode}
use Rattle.hs_syntax.specs.declared.named.Named.{Named}
use Rattle.hs_syntax.specs.declared.wrong.Wrong.TheVariants as wrong
use Rattle.hs_syntax.specs.declared.escape.Escape.{Escape}
use Rattle.hs_syntax.specs.declared.escape.Escape.TheVariants as escape
use Rattle.hs_syntax.specs.declared.piece.Piece.{Piece}
use Rattle.hs_syntax.specs.declared.piece.Piece.TheVariants.{End, Close, Character, Class, Refused}
use Rattle.hs_syntax.specs.Bytes.{◌∈◌, is_one_of}
use Rattle.hs_syntax.specs.Names.{class_of_name, name_end}
use Rattle.hs_syntax.specs.Characters.{character_of}
use Rattle.hs_syntax.specs.Escapes.{escape_at}

-- the byte `[`
abbrev pub opening_bracket : ℕ
opening_bracket = 0x5B

-- the byte `:`
abbrev pub colon : ℕ
colon = 0x3A

-- the byte `.`
abbrev pub full_stop : ℕ
full_stop = 0x2E

-- the byte `=`
abbrev pub equals_sign : ℕ
equals_sign = 0x3D

-- an escape in a class; `\b` is the backspace there
abbrev pub escaped_of : Escape → Piece
escaped_of (escape.Character code length) = Character code length
escaped_of (escape.Class class negated) = Class class negated 2
escaped_of (escape.Other b) = if b ∈ "b" then Character 0x08 2 else Refused wrong.UnknownEscape
escaped_of (escape.Refused reason) = Refused reason

-- a named class that ends at a place
abbrev pub posix_of : (negated : Bool) → (end : ℕ) → Option Named → Piece
posix_of negated end None = Refused wrong.Syntax
posix_of negated end (Some class) = Class class negated end

-- the name from a place on, whose end may be there
abbrev pub posix_name : (caseless negated : Bool) → List ℕ → (at : ℕ) → (end : Option ℕ) → Piece
posix_name caseless negated bytes at None = Character opening_bracket 1
posix_name caseless negated bytes at (Some end) =
    posix_of negated (end + 2) (class_of_name caseless (take (end - at) (drop at bytes)))

-- `[:name:]` and `[:^name:]`
unfoldable pub posix_at : (caseless : Bool) → List ℕ → Piece
posix_at caseless bytes =
    let negated = is_one_of "^" (slice_get bytes 2) in
    let at = if negated then 3 else 2 in
    posix_name caseless negated bytes at (name_end colon bytes at)

-- `[.` and `[=`, by the end of the name
abbrev pub collating_of : Option ℕ → Piece
collating_of None = Character opening_bracket 1
collating_of (Some end) = Refused (wrong.Unsupported Collating)

-- a `[` in a class, by the byte behind it
unfoldable pub bracket_at : (caseless : Bool) → List ℕ → Piece
bracket_at caseless bytes =
    let next = slice_get bytes 1 in
    if is_one_of ":" next then posix_at caseless bytes
    else if is_one_of "." next then collating_of (name_end full_stop bytes 2)
    else if is_one_of "=" next then collating_of (name_end equals_sign bytes 2)
    else Character opening_bracket 1

-- a character that stands for itself
abbrev pub character_piece : Option (ℕ × ℕ) → Piece
character_piece None = Refused (wrong.IllFormed 0)
character_piece (Some (code, length)) = Character code length

-- a piece, by its first byte; a `]` that is the first of the class stands for itself
abbrev pub piece_by : Mode → (first : Bool) → List ℕ → Option ℕ → Piece
piece_by mode first bytes None = End
piece_by mode first bytes (Some b) =
    if b ∈ "\\" then escaped_of (escape_at mode.utf8 bytes)
    else if b ∈ "[" then bracket_at mode.caseless bytes
    else if (b ∈ "]") && not first then Close
    else character_piece (character_of mode.utf8 bytes b)

-- what the bytes begin with
unfoldable pub piece_at : Mode → (first : Bool) → List ℕ → Piece
piece_at mode first bytes = piece_by mode first bytes (slice_get bytes 0)
