use Rattle.std.proofs.Common.{arith}
use Rattle.hs_repeat.proofs.LastBlockLemmas.{last-counted}
use Rattle.hs_repeat.proofs.last_block.distance_behind_block.Goals as goal

pub returns-then-contains_place-clause-reached : goal.returns-then-contains_place-clause-reached
returns-then-contains_place-clause-reached c on place last = last-counted c.args.enters place (omega arith) last
