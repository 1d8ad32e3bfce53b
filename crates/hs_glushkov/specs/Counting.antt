-- How many positions an expression has.
use Rattle.std.specs.Prelude.{◌≡◌}
use Rattle.hs_base.specs.Trees.{Tree}
use Rattle.hs_base.specs.WrittenOut.{write_out, IsPlain, count}
use Rattle.hs_expr.specs.Counts.{positions}

-- An expression has as many positions written out as are counted in its tree.
abbrev pub PositionsAreCounted : Type 0
PositionsAreCounted = (tree : Tree) → IsPlain tree → count (write_out tree) ≡ positions tree
