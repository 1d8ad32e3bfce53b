-- What a `(` begins (PCRE pattern syntax, "Groups", "Named capture groups", "Comments" and "Internal option setting").
-- Bytes begin with the `(`.
use Rattle.std.specs.Prelude.{ℕ, ◌+◌, true, false, Option, Some, None, if◌then◌else◌, List, take, drop, slice_get}
use Rattle.std.specs.Char.{is_ascii_alphabetic}
use Rattle.hs_base.specs.declared.construct.Construct.TheVariants as construct
use Rattle.hs_syntax.specs.declared.mode.Mode.{Mode}
use Rattle.hs_syntax.specs.declared.mode.Change.{Change}
use Rattle.hs_syntax.specs.declared.wrong.Wrong.TheVariants.{Syntax, IllFormed, Unsupported}
use Rattle.hs_syntax.specs.declared.form.Form.{Form}
use Rattle.hs_syntax.specs.declared.form.Form.TheVariants.{Skipped, Setting, Opening, Refused}
use Rattle.hs_syntax.specs.Bytes.{◌∈◌, is_one_of, is_digit, place_on}
use Rattle.hs_syntax.specs.Settings.{set_options}
use Rattle.hs_syntax.specs.Names.{group_name_end}
use Rattle.hs_syntax.specs.Characters.{ill_formed_of}

-- the byte `)`
abbrev pub closing_parenthesis : ℕ
closing_parenthesis = 0x29

-- the byte `>`
abbrev pub greater_sign : ℕ
greater_sign = 0x3E

-- the byte `'`
abbrev pub apostrophe : ℕ
apostrophe = 0x27

-- a comment of so many bytes, by the place of a byte in it that begins no character
abbrev pub comment : Mode → (length : ℕ) → (ill_formed : Option ℕ) → Form
comment mode length None = Skipped mode length
comment mode length (Some place) = Refused (IllFormed place)

-- `(?#` up to the first `)`
abbrev pub comment_of : Mode → List ℕ → Option ℕ → Form
comment_of mode bytes None = Refused Syntax
comment_of mode bytes (Some close) = comment mode (close + 1) (ill_formed_of mode.utf8 (take close bytes))

-- a named group, by the place behind the mark that closes its name
abbrev pub named_of : Mode → Option ℕ → Form
named_of mode None = Refused Syntax
named_of mode (Some end) = Opening mode end

-- what stands behind the letters of options
abbrev pub settings_of : Change → Option ℕ → Form
settings_of change None = Refused Syntax
settings_of change (Some b) =
    if b ∈ ")" then Setting change.mode (change.end + 1)
    else if b ∈ ":" then Opening change.mode (change.end + 1)
    else if is_ascii_alphabetic b then Refused (Unsupported construct.Option)
    else Refused Syntax

-- the options that are set, and behind a hyphen those that are unset
abbrev pub changed : List ℕ → Change → Change
changed bytes set =
    if is_one_of "-" (slice_get bytes set.end)
    then set_options false set.mode (set.end + 1) (drop (set.end + 1) bytes)
    else set

-- letters of options behind `(?`
unfoldable pub settings_at : Mode → List ℕ → Form
settings_at mode bytes =
    let change = changed bytes (set_options true mode 2 (drop 2 bytes)) in
    settings_of change (slice_get bytes change.end)

-- behind `(?P`
unfoldable pub letter_group : Mode → List ℕ → Form
letter_group mode bytes =
    let next = slice_get bytes 3 in
    if is_one_of "<" next then named_of mode (group_name_end greater_sign bytes 4)
    else if is_one_of ">" next then Refused (Unsupported construct.Recursion)
    else if is_one_of "=" next then Refused (Unsupported construct.Backreference)
    else settings_at mode bytes

-- behind `(?<`
unfoldable pub angle_group : Mode → List ℕ → Form
angle_group mode bytes =
    if is_one_of "=!" (slice_get bytes 3)
    then Refused (Unsupported construct.Lookaround)
    else named_of mode (group_name_end greater_sign bytes 3)

-- behind `(?-`
unfoldable pub hyphen_group : Mode → List ℕ → Form
hyphen_group mode bytes =
    if is_digit (slice_get bytes 3) then Refused (Unsupported construct.Recursion) else settings_at mode bytes

-- behind `(?`, by the byte there
unfoldable pub question_by : Mode → List ℕ → ℕ → Form
question_by mode bytes b =
    if b ∈ ":|" then Opening mode 3
    else if b ∈ "P" then letter_group mode bytes
    else if b ∈ "<" then angle_group mode bytes
    else if b ∈ "'" then named_of mode (group_name_end apostrophe bytes 3)
    else if b ∈ "#" then comment_of mode bytes (place_on closing_parenthesis 3 (drop 3 bytes))
    else if b ∈ "=!" then Refused (Unsupported construct.Lookaround)
    else if b ∈ ">" then Refused (Unsupported construct.Atomic)
    else if b ∈ "(" then Refused (Unsupported construct.Conditional)
    else if b ∈ "C" then Refused (Unsupported construct.Callout)
    else if b ∈ "R&+0123456789" then Refused (Unsupported construct.Recursion)
    else if b ∈ "-" then hyphen_group mode bytes
    else settings_at mode bytes

abbrev pub question_of : Mode → List ℕ → Option ℕ → Form
question_of mode bytes None = Refused Syntax
question_of mode bytes (Some b) = question_by mode bytes b

-- what a `(` begins, by the byte behind it
unfoldable pub group_at : Mode → List ℕ → Form
group_at mode bytes =
    let next = slice_get bytes 1 in
    if is_one_of "*" next then Refused (Unsupported construct.Verb)
    else if is_one_of "?" next then question_of mode bytes (slice_get bytes 2)
    else Opening mode 1
