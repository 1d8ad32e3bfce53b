use Rattle.std.proofs.Common.{◌≡◌, ◌++◌, map, drop}
use Rattle.std.specs.List.{zip}
use Rattle.hs_expr.specs.Meaning.{tree_of}
use Rattle.hs_utf8.specs.Runs.{place_tree}
use Rattle.hs_utf8.proofs.byte_range.run_classes.Given as goal

-- the classes so far, and those to come
abbrev pub invariant-loop-i : goal.invariant-loop-i
invariant-loop-i l =
    map tree_of l.places.items ++ map place_tree (zip (drop l.i l.least) (drop l.i l.greatest)) ≡ map place_tree (zip l.least l.greatest)
