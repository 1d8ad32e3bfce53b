use Rattle.std.proofs.Common.{refl}
use Rattle.hs_waking.specs.PrevSets.{is_each}
use Rattle.hs_waking.proofs.PrevLemmas.{each-member}
use Rattle.hs_waking.proofs.prev_set.PrevSet.is_all.Goals as goal

pub returns-clause-each : goal.returns-clause-each
unfolding is_each
returns-clause-each c = refl

pub returns-clause-members : goal.returns-clause-members
returns-clause-members c = each-member c.args.self
