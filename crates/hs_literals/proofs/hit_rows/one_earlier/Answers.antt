use Rattle.hs_literals.proofs.HitTableLemmas.{earlier-bit}
use Rattle.hs_literals.proofs.hit_rows.one_earlier.Goals as goal

pub returns : goal.returns
returns c i below = earlier-bit c.args.word c.args.next i c.ranges.word.fits below
