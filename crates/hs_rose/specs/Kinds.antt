-- Of which kind the role of a piece is, and how long its field.
use Rattle.std.specs.Prelude.{◌≡◌, ℕ, Bool, true, false, Option, Some, None}
use Rattle.hs_base.specs.Chains.{Piece, lit, nfa, rep}
use Rattle.hs_base.specs.KeptPieces.{Form, nothing, positions, literal, first, last, ring, form_size}
use Rattle.hs_base.specs.Regions.{Place, place_form}
use Rattle.hs_rose.specs.declared.kind.Kind.{Kind}
use Rattle.hs_rose.specs.declared.kind.Kind.TheVariants.{LookBack, Positions, Dfa, BareLiteral, Literal, First, Last}
use Rattle.hs_rose.specs.declared.kind.Kind.TheVariants.{Ring}

-- of a piece of which nothing is kept: a repeat isn't one
abbrev pub bare_kind : Piece → Kind
bare_kind (lit xs) = BareLiteral
bare_kind (nfa tree) = LookBack
bare_kind (rep set n m) = LookBack

-- by what is kept
abbrev pub kind_for : Form → Piece → Kind
kind_for nothing piece = bare_kind piece
kind_for (positions tree) piece = Positions
kind_for (literal n) piece = Literal
kind_for (first set n) piece = First
kind_for (last set m) piece = Last
kind_for (ring set m) piece = Ring

-- of the piece at a place
abbrev pub place_kind : Place → Kind
place_kind p = kind_for (place_form p) p.piece

-- the role is one of a literal
abbrev pub is_literal : Kind → Bool
is_literal LookBack = false
is_literal Positions = false
is_literal Dfa = false
is_literal BareLiteral = true
is_literal Literal = true
is_literal First = false
is_literal Last = false
is_literal Ring = false

-- a number that literals have
abbrev pub number_if_literal : Kind → ℕ → Option ℕ
number_if_literal LookBack n = None
number_if_literal Positions n = None
number_if_literal Dfa n = None
number_if_literal BareLiteral n = Some n
number_if_literal Literal n = Some n
number_if_literal First n = None
number_if_literal Last n = None
number_if_literal Ring n = None

-- a number that the others have
abbrev pub number_if_run : Kind → ℕ → Option ℕ
number_if_run LookBack n = Some n
number_if_run Positions n = Some n
number_if_run Dfa n = Some n
number_if_run BareLiteral n = None
number_if_run Literal n = None
number_if_run First n = Some n
number_if_run Last n = Some n
number_if_run Ring n = Some n

-- The kind and the length of the field of a piece of that form.
pub record IsShape (form : Form) (piece : Piece) (kind : Kind) (size : ℕ) : Type 0 where
  pub kind_is : kind ≡ kind_for form piece
  pub size_is : size ≡ form_size form
