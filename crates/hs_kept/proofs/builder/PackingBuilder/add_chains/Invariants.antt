use Rattle.std.proofs.Common.{List, map, take, ◌++◌}
use Rattle.hs_base.specs.Regions.{Place}
use Rattle.hs_pieces.specs.Meaning.{plain_chain}
use Rattle.hs_kept.specs.Builders.{HasCandidates, places_in_chains}
use Rattle.hs_kept.proofs.builder.PackingBuilder.add_chains.Given as goal

abbrev pub invariant-loop-chain : goal.invariant-loop-chain
invariant-loop-chain l =
    (before : List Place) → HasCandidates l.fn.self before → HasCandidates l.self (before ++ places_in_chains (map plain_chain (take l.chain-index l.chains)))
