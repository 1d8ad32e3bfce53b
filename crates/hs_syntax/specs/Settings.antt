-- The options of an expression (PCRE pattern syntax, "Internal option setting"), and what of them is in force.
use Rattle.std.specs.Prelude.{ℕ, ◌+◌, Bool, false, ◌==◌, bit_and, if◌then◌else◌, List, [], ◌∷◌}
use Rattle.hs_base.specs.declared.flags.Flags.{Flags}
use Rattle.hs_syntax.specs.declared.mode.Mode.{Mode}
use Rattle.hs_syntax.specs.declared.mode.Change.{Change}
use Rattle.hs_syntax.specs.Bytes.{◌∈◌}

abbrev pub has_flag : ℕ → Flags → Bool
has_flag flag flags = bit_and flags.0 flag == flag

-- how an expression begins: i, s, m and UTF-8 are as its flags say, x is off
unfoldable pub mode_of : Flags → Mode
mode_of flags = record {
  caseless = has_flag 1 flags;
  dotall = has_flag 2 flags;
  multiline = has_flag 4 flags;
  extended = false;
  quoted = false;
  utf8 = has_flag 32 flags;
}

-- within a quote or outside of it
abbrev pub with_quote : Bool → Mode → Mode
with_quote quoted mode = record mode { quoted = quoted }

-- a letter of an option
abbrev pub is_option : ℕ → Bool
is_option b = b ∈ "imsx"

-- the option of a letter is set or unset
unfoldable pub set_option : ℕ → Bool → Mode → Mode
set_option letter on mode =
    if letter ∈ "i" then record mode { caseless = on }
    else if letter ∈ "m" then record mode { multiline = on }
    else if letter ∈ "s" then record mode { dotall = on }
    else record mode { extended = on }

abbrev pub change : Mode → ℕ → Change
change mode end = record { mode = mode; end = end }

-- the options of the letters that the bytes begin with are set or unset, and the place behind these
abbrev pub set_options : Bool → Mode → ℕ → List ℕ → Change
set_options on mode at [] = change mode at
set_options on mode at (b ∷ bytes) =
    if is_option b then set_options on (set_option b on mode) (at + 1) bytes else change mode at
