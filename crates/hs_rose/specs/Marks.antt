-- Numbers that tell most pieces apart.
use Rattle.std.specs.Prelude.{ℕ, ◌+◌, ◌*◌, ◌%◌, ◌^◌, Bool, List, Option, Some, None}
use Rattle.hs_base.specs.Chains.{Piece, lit, nfa, rep}
use Rattle.hs_base.specs.Literals.{LiteralByte, literal_of}
use Rattle.hs_base.specs.Trees.{Tree, Trees, empty, class, points, assert, cat, alt, repeat, none, more}
use Rattle.hs_rose.specs.Keys.{key_byte}

-- a mark with a number mixed into it
unfoldable pub mixed : ℕ → ℕ → ℕ
mixed mark n = (mark * 31 % 2 ^ 64 + n) % 2 ^ 64

-- the mark of what stands at a place of a literal, and that of any other set
abbrev pub place_mark : Option LiteralByte → ℕ
place_mark None = 6
place_mark (Some x) = key_byte x

-- the mark of a set
unfoldable pub set_mark : List Bool → ℕ
set_mark set = place_mark (literal_of set)

-- the mark of an expression, and that of its parts mixed into a number
abbrev mutual
  pub tree_mark : Tree → ℕ
  tree_mark empty = 1
  tree_mark (class set) = set_mark set
  tree_mark (points ranges) = 2
  tree_mark (assert assertion) = 3
  tree_mark (cat items) = trees_mark items 4
  tree_mark (alt items) = trees_mark items 5
  tree_mark (repeat body least greatest) = mixed (tree_mark body) least

  pub trees_mark : Trees → ℕ → ℕ
  trees_mark none mark = mark
  trees_mark (more item items) mark = trees_mark items (mixed mark (tree_mark item))

-- the mark of a piece that isn't a literal
abbrev pub mark_of : Piece → ℕ
mark_of (lit bytes) = 0
mark_of (nfa tree) = tree_mark tree
mark_of (rep set least greatest) = mixed (set_mark set) least
