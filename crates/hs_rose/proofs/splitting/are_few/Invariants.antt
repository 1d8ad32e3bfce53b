use Rattle.std.proofs.Common.{◌^◌, ◌<◌, length, map, take}
use Rattle.hs_base.specs.Lists.{Each}
use Rattle.hs_pieces.specs.Meaning.{plain_chain}
use Rattle.hs_rose.proofs.splitting.are_few.Given as goal

abbrev pub invariant-loop-chain : goal.invariant-loop-chain
invariant-loop-chain l = Each (λ chain. length chain < 2 ^ 32) (map plain_chain (take l.chain-index l.chains))
