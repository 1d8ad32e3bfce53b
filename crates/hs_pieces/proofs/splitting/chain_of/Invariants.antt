use Rattle.std.proofs.Common.{◌≡◌, map, drop}
use Rattle.hs_base.specs.Chains.{pieces_of, part_of}
use Rattle.hs_expr.specs.Meaning.{tree_of}
use Rattle.hs_pieces.specs.Splitting.{whole}
use Rattle.hs_pieces.proofs.splitting.chain_of.Given as goal

-- the items so far and those to come have the pieces of all
abbrev pub invariant-loop-item : goal.invariant-loop-item
invariant-loop-item l =
    whole l.parts (map part_of (map tree_of (drop l.item-index l.items))) ≡ pieces_of (map tree_of l.items)
