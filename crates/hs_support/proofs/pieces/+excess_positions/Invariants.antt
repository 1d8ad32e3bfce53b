use Rattle.std.proofs.Common.{◌≡◌, map, drop}
use Rattle.std.specs.Option.{option_map}
use Rattle.hs_expr.specs.Counts.{capped}
use Rattle.hs_expr.specs.Meaning.{tree_of, trees_of}
use Rattle.hs_support.specs.PieceCounts.{first_excess_of}
use Rattle.hs_expr.specs.Waiting.{chains_of_all}
use Rattle.hs_support.proofs.pieces.+excess_positions.Given as goal

-- the alternatives so far have none, so that the first of all is that of the others
abbrev pub invariant-excess_of_all-loop-item : goal.invariant-excess_of_all-loop-item
invariant-excess_of_all-loop-item l =
    option_map capped (first_excess_of (chains_of_all (trees_of (map tree_of l.items))))
    ≡ option_map capped (first_excess_of (chains_of_all (trees_of (map tree_of (drop l.item-index l.items)))))
