use Rattle.std.proofs.Common.{◌≡◌, map, take}
use Rattle.hs_pieces.specs.Meaning.{plain_chain}
use Rattle.hs_rose.specs.Plans.{chains_size}
use Rattle.hs_rose.proofs.sizing.fields_size.Given as goal

abbrev pub invariant-loop-k : goal.invariant-loop-k
invariant-loop-k l = l.size ≡ chains_size (take l.k (map plain_chain l.chains))
