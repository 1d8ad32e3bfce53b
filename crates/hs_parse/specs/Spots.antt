-- Where the reading of an expression is. A text is a list of bytes, and a place an offset in it.
use Rattle.std.specs.Prelude.{ℕ, ◌+◌, List, drop}
use Rattle.hs_base.specs.declared.flags.Flags.{Flags}
use Rattle.hs_base.specs.declared.refusal.Refusal.{Refusal}
use Rattle.hs_base.specs.declared.refusal.Refusal.TheVariants as refusal
use Rattle.hs_syntax.specs.declared.mode.Mode.{Mode}
use Rattle.hs_syntax.specs.declared.wrong.Wrong.{Wrong}
use Rattle.hs_syntax.specs.declared.wrong.Wrong.TheVariants as wrong
use Rattle.hs_syntax.specs.declared.form.Form.{Form}
use Rattle.hs_syntax.specs.Settings.{mode_of}
use Rattle.hs_syntax.specs.Forms.{form_at}
use Rattle.hs_parse.specs.declared.spot.Spot.{Spot}

-- a place, and the options in force there
abbrev pub spot : ℕ → Mode → Spot
spot place mode = record { place = place; mode = mode }

-- where an expression begins
abbrev pub start_of : Flags → Spot
start_of flags = spot 0 (mode_of flags)

-- what begins at a place
abbrev pub form_of : List ℕ → Spot → Form
form_of text s = form_at s.mode (drop s.place text)

-- the refusal of a form that begins at the place
abbrev pub refusal_at : Wrong → ℕ → Refusal
refusal_at wrong.Syntax at = refusal.Syntax at
refusal_at wrong.UnknownEscape at = refusal.UnknownEscape at
refusal_at (wrong.IllFormed place) at = refusal.Syntax (at + place)
refusal_at (wrong.Unsupported construct) at = refusal.Unsupported construct at
