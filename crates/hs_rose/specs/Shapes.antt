-- What is kept of a piece, by how many stand before it.
use Rattle.std.specs.Prelude.{ℕ, ◌+◌, ◌/◌, Bool, ◌||◌, ◌&&◌, ◌==◌, nat_le, Option, Some, None, if◌then◌else◌}
use Rattle.hs_base.specs.Chains.{Piece, lit, nfa, rep}
use Rattle.hs_base.specs.WrittenOut.{count, write_out}
use Rattle.hs_rose.specs.declared.kind.Kind.{Kind}
use Rattle.hs_rose.specs.declared.kind.Kind.TheVariants.{LookBack, Positions, BareLiteral, Literal, First, Last, Ring}
use Rattle.hs_rose.specs.declared.shape.Shape.{Shape}

abbrev pub shape : Kind → ℕ → Shape
shape kind size = record { kind = kind; size = size }

-- of a literal, in a chain whose first piece looks back or not
abbrev pub literal_shape : (looks_back : Bool) (before : ℕ) → Shape
literal_shape looks_back before =
    if (before == 0) || ((before == 1) && looks_back) then shape BareLiteral 0 else shape Literal 4

-- of an expression of so many positions
abbrev pub tree_shape : (looks_back : Bool) (before : ℕ) (positions : ℕ) → Shape
tree_shape looks_back before positions =
    if (before == 0) && looks_back then shape LookBack 0 else shape Positions ((positions + 7) / 8)

-- of a repeat
abbrev pub repeat_shape : ℕ → Option ℕ → Shape
repeat_shape least None = shape First 2
repeat_shape least (Some greatest) = if nat_le least 1 then shape Last 2 else shape Ring ((greatest + 7) / 8)

-- of the piece behind so many others
abbrev pub shape_for : (looks_back : Bool) (before : ℕ) → Piece → Shape
shape_for looks_back before (lit xs) = literal_shape looks_back before
shape_for looks_back before (nfa tree) = tree_shape looks_back before (count (write_out tree))
shape_for looks_back before (rep set least greatest) = repeat_shape least greatest
