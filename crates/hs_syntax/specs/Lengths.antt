-- What begins at a place takes some of the bytes there: none where they end, and else one at least.
use Rattle.std.specs.Prelude.{◌≡◌, ℕ, ◌<◌, ◌≤◌}
use Rattle.hs_syntax.specs.declared.form.Form.{Form}
use Rattle.hs_syntax.specs.declared.form.Form.TheVariants as form
use Rattle.hs_syntax.specs.declared.piece.Piece.{Piece}
use Rattle.hs_syntax.specs.declared.piece.Piece.TheVariants as piece
use Rattle.hs_syntax.specs.declared.wrong.Wrong.{Wrong}
use Rattle.hs_syntax.specs.declared.wrong.Wrong.TheVariants as wrong

-- a length of one byte at least, of so many
pub record IsLength (bytes length : ℕ) : Type 0 where
  pub some : 0 < length
  pub within : length ≤ bytes

-- a byte that begins no character is one of so many
abbrev pub WrongFits : (bytes : ℕ) → Wrong → Type 0
WrongFits bytes wrong.Syntax = Unit {0}
WrongFits bytes wrong.UnknownEscape = Unit {0}
WrongFits bytes (wrong.IllFormed place) = place < bytes
WrongFits bytes (wrong.Unsupported construct) = Unit {0}

-- the length of a form, of so many bytes
abbrev pub FormFits : (bytes : ℕ) → Form → Type 0
FormFits bytes form.End = bytes ≡ 0
FormFits bytes (form.Skipped mode length) = IsLength bytes length
FormFits bytes (form.Setting mode length) = IsLength bytes length
FormFits bytes (form.Opening mode length) = IsLength bytes length
FormFits bytes form.Closing = IsLength bytes 1
FormFits bytes form.Bar = IsLength bytes 1
FormFits bytes form.Any = IsLength bytes 1
FormFits bytes (form.Character code length) = IsLength bytes length
FormFits bytes (form.Class class negated length) = IsLength bytes length
FormFits bytes form.Bracket = IsLength bytes 1
FormFits bytes (form.Assert assertion length) = IsLength bytes length
FormFits bytes (form.Quantifier least greatest possessive length) = IsLength bytes length
FormFits bytes (form.Refused reason) = WrongFits bytes reason

-- the length of a piece of a class, of so many bytes
abbrev pub PieceFits : (bytes : ℕ) → Piece → Type 0
PieceFits bytes piece.End = bytes ≡ 0
PieceFits bytes piece.Close = IsLength bytes 1
PieceFits bytes (piece.Character code length) = IsLength bytes length
PieceFits bytes (piece.Class class negated length) = IsLength bytes length
PieceFits bytes (piece.Refused reason) = WrongFits bytes reason
