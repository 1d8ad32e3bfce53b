-- What the bytes of an expression begin outside of classes, under the options in force (PCRE pattern syntax,
-- "Characters and metacharacters").
use Rattle.std.specs.Prelude.{ℕ, ◌+◌, true, false, ◌&&◌, Option, Some, None, is_some, if◌then◌else◌, List, length, drop}
use Rattle.std.specs.Prelude.{take, slice_get}
use Rattle.hs_base.specs.declared.assertion.Assertion.{Assertion}
use Rattle.hs_base.specs.declared.assertion.Assertion.TheVariants.{StreamStart, LineStart, LineEnd, EndOrFinalNewline}
use Rattle.hs_base.specs.declared.construct.Construct.{Construct}
use Rattle.hs_base.specs.Assertions.{line_feed}
use Rattle.hs_base.specs.ByteSets.{is_space}
use Rattle.hs_syntax.specs.declared.mode.Mode.{Mode}
use Rattle.hs_syntax.specs.declared.wrong.Wrong.TheVariants as wrong
use Rattle.hs_syntax.specs.declared.escape.Escape.{Escape}
use Rattle.hs_syntax.specs.declared.escape.Escape.TheVariants as escape
use Rattle.hs_syntax.specs.declared.form.Form.{Form}
use Rattle.hs_syntax.specs.declared.form.Form.TheVariants.{End, Skipped, Any, Character, Class, Assert, Bracket}
use Rattle.hs_syntax.specs.declared.form.Form.TheVariants.{Closing, Bar, Refused}
use Rattle.hs_syntax.specs.Bytes.{◌∈◌, is_one_of, place_on}
use Rattle.hs_syntax.specs.Settings.{with_quote}
use Rattle.hs_syntax.specs.Names.{name_end}
use Rattle.hs_syntax.specs.Characters.{character_of, ill_formed_of}
use Rattle.hs_syntax.specs.Escapes.{escape_at, construct_letter, assertion_letter}
use Rattle.hs_syntax.specs.Groups.{comment, group_at}
use Rattle.hs_syntax.specs.Pieces.{colon}
use Rattle.hs_syntax.specs.Quantifiers.{quantifier_at, brace_at}

-- a letter behind a backslash that has its meaning outside of classes alone
abbrev pub letter_of : Mode → ℕ → Option Assertion → Option Construct → Form
letter_of mode b (Some assertion) construct = Assert assertion 2
letter_of mode b None (Some construct) = Refused (wrong.Unsupported construct)
letter_of mode b None None =
    if b ∈ "Q" then Skipped (with_quote true mode) 2
    else if b ∈ "E" then Skipped mode 2
    else Refused wrong.UnknownEscape

abbrev pub escaped_of : Mode → Escape → Form
escaped_of mode (escape.Character code length) = Character code length
escaped_of mode (escape.Class class negated) = Class class negated 2
escaped_of mode (escape.Other b) = letter_of mode b (assertion_letter b) (construct_letter b)
escaped_of mode (escape.Refused reason) = Refused reason

-- a character that stands for itself
abbrev pub character_form : Option (ℕ × ℕ) → Form
character_form None = Refused (wrong.IllFormed 0)
character_form (Some (code, length)) = Character code length

-- within a quote every character stands for itself, up to the `\E`
abbrev pub quoted_of : Mode → List ℕ → Option ℕ → Option ℕ → Form
quoted_of mode bytes None next = End
quoted_of mode bytes (Some b) next =
    if (b ∈ "\\") && is_one_of "E" next
    then Skipped (with_quote false mode) 2
    else character_form (character_of mode.utf8 bytes b)

-- a comment to the end of its line, or of the text, by the place of the line feed
abbrev pub line_of : Mode → List ℕ → Option ℕ → Form
line_of mode bytes None = comment mode (length bytes) (ill_formed_of mode.utf8 bytes)
line_of mode bytes (Some at) = comment mode (at + 1) (ill_formed_of mode.utf8 (take at bytes))

-- `^`
abbrev pub start_of : Mode → Assertion
start_of mode = if mode.multiline then LineStart else StreamStart

-- `$`
abbrev pub end_of : Mode → Assertion
end_of mode = if mode.multiline then LineEnd else EndOrFinalNewline

-- a `[`, where the name of a class has no place
abbrev pub bracket_of : List ℕ → Form
bracket_of bytes =
    if is_one_of ":" (slice_get bytes 1) && is_some (name_end colon bytes 2) then Refused wrong.Syntax else Bracket

-- what a byte begins
unfoldable pub marked_by : Mode → List ℕ → ℕ → Form
marked_by mode bytes b =
    if b ∈ "\\" then escaped_of mode (escape_at mode.utf8 bytes)
    else if b ∈ "[" then bracket_of bytes
    else if b ∈ "(" then group_at mode bytes
    else if b ∈ ")" then Closing
    else if b ∈ "|" then Bar
    else if b ∈ "*" then quantifier_at 0 None bytes 1
    else if b ∈ "+" then quantifier_at 1 None bytes 1
    else if b ∈ "?" then quantifier_at 0 (Some 1) bytes 1
    else if b ∈ "{" then brace_at bytes
    else if b ∈ "." then Any
    else if b ∈ "^" then Assert (start_of mode) 1
    else if b ∈ "$" then Assert (end_of mode) 1
    else character_form (character_of mode.utf8 bytes b)

-- under x blanks are skipped, and comments from a `#` on
abbrev pub plain_of : Mode → List ℕ → Option ℕ → Form
plain_of mode bytes None = End
plain_of mode bytes (Some b) =
    if mode.extended && is_space b then Skipped mode 1
    else if mode.extended && b ∈ "#" then line_of mode bytes (place_on line_feed 1 (drop 1 bytes))
    else marked_by mode bytes b

-- what the bytes begin with
unfoldable pub form_at : Mode → List ℕ → Form
form_at mode bytes =
    if mode.quoted
    then quoted_of mode bytes (slice_get bytes 0) (slice_get bytes 1)
    else plain_of mode bytes (slice_get bytes 0)
