use Rattle.std.proofs.Common.{[], map, take}
use Rattle.hs_rose.specs.Building.{IsBuilt}
use Rattle.hs_rose.specs.Listing.{asked_of, listed_from, plain_chains}
use Rattle.hs_rose.proofs.program.Program.build.Given as goal

abbrev pub invariant-loop-k : goal.invariant-loop-k
invariant-loop-k l = IsBuilt l.builder (listed_from 1 (take l.k (map asked_of l.entries)) (take l.k (map plain_chains l.chains))) []
