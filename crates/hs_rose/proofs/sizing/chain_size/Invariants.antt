use Rattle.std.proofs.Common.{◌≡◌, ◌*◌, ◌≤◌, take}
use Rattle.std.specs.List.{sum_by}
use Rattle.hs_base.specs.Regions.{place_size}
use Rattle.hs_pieces.specs.Meaning.{plain_chain}
use Rattle.hs_rose.specs.Plans.{chain_places}
use Rattle.hs_rose.proofs.sizing.chain_size.Given as goal

abbrev pub invariant-loop-before : goal.invariant-loop-before
invariant-loop-before l = (l.size ≡ sum_by place_size (take l.before (chain_places (plain_chain l.chain)))) × (l.size ≤ l.before * 65535)
