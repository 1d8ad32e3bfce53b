use Rattle.std.proofs.Common.{◌≡◌, ◌++◌, map, drop}
use Rattle.hs_expr.specs.Meaning.{tree_of, trees_of}
use Rattle.hs_pieces.specs.Meaning.{plain_chain}
use Rattle.hs_expr.specs.Waiting.{chains_of_all}
use Rattle.hs_pieces.proofs.splitting.+push_chains.Given as goal

-- the chains so far and those to come make up the whole
abbrev pub invariant-push_chains_of_all-loop-item : goal.invariant-push_chains_of_all-loop-item
invariant-push_chains_of_all-loop-item l =
    map plain_chain l.chains.items ++ chains_of_all (trees_of (map tree_of (drop l.item-index l.items)))
    ≡ map plain_chain l.initial.chains.items ++ chains_of_all (trees_of (map tree_of l.items))
