use Rattle.hs_literals.proofs.HitTableLemmas.{block-hit}
use Rattle.hs_literals.proofs.hit_rows.block_hits.Goals as goal

pub returns : goal.returns
returns c = block-hit c.args.rows.now c.args.number c.args.block _ c.contains_place.ensures c.one_earlier.ensures
