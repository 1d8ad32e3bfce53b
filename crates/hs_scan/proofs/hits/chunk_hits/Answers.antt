use Rattle.std.proofs.Common.{◌+◌, refl, arith}
use Rattle.hs_scan.proofs.HitLemmas.{shown-all, shown-more, shown-none}
use Rattle.hs_scan.proofs.hits.chunk_hits.Goals as goal

pub loop-j-init : goal.loop-j-init
loop-j-init c = shown-none c.args.rows.now c.args.number _ c.in_block.result refl refl c.in_block.ensures

pub loop-j-preserved : goal.loop-j-preserved
loop-j-preserved c =
    shown-more c.args.rows.now c.args.number c.loop-j.hits c.in_block-in-loop-j.result _ c.loop-j.j (c.loop-j.j + 1) refl (omega arith) refl c.in_block-in-loop-j.ensures c.loop-j.invariant

pub returns : goal.returns
returns c = shown-all c.args.rows.now c.args.number c.loop-j.hits c.loop-j.j (omega arith) c.loop-j.invariant
