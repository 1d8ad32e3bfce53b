use Rattle.std.proofs.Common.{arith}
use Rattle.hs_waking.proofs.WordLemmas.{moved-high, moved-low}
use Rattle.hs_waking.proofs.chunk_places.moved.Goals as goal

pub returns-clause-low : goal.returns-clause-low
returns-clause-low c i below = moved-low c.args.word c.args.next c.args.distance i c.requires (omega arith) below

pub returns-clause-high : goal.returns-clause-high
returns-clause-high c i small past = moved-high c.args.word c.args.next c.args.distance i c.requires small (omega (arith, c.ranges.word.fits)) past
