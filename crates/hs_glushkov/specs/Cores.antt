-- What expressions are with their repeats written out.
use Rattle.std.specs.Prelude.{List, map}
use Rattle.hs_base.specs.WrittenOut.{Core, empty, fail, write_out, cat_from, alt_from}
use Rattle.hs_expr.specs.Meaning.{tree_of, trees_of}
use Rattle.hs_expr.specs.declared.expr.Expr.{Expr}

-- one expression
abbrev pub core_of : Expr → Core
core_of expr = write_out (tree_of expr)

-- items, one after the other
abbrev pub cat_of : List Expr → Core
cat_of items = cat_from empty (trees_of (map tree_of items))

-- alternatives
abbrev pub alt_of : List Expr → Core
alt_of items = alt_from fail (trees_of (map tree_of items))
