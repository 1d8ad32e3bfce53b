use Rattle.std.proofs.Common.{List, [], ◌++◌, map, take}
use Rattle.hs_pieces.specs.Meaning.{plain_chain}
use Rattle.hs_rose.specs.Building.{IsBuilt}
use Rattle.hs_rose.specs.Listing.{ListedChain, asked_of, chains_from}
use Rattle.hs_rose.proofs.builder.Builder.add_entry.Given as goal

abbrev pub invariant-loop-k : goal.invariant-loop-k
invariant-loop-k l = (before : List ListedChain) → IsBuilt l.fn.self before [] →
    IsBuilt l.self (before ++ take l.k (chains_from l.number 1 (asked_of l.entry) (map plain_chain l.chains))) []
