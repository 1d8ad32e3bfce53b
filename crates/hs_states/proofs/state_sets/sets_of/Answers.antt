use Rattle.std.proofs.Common.{arith}
use Rattle.std.proofs.lemmas.Option.{slice_get-get_or}
use Rattle.hs_states.proofs.SetLemmas.{sets-more}
use Rattle.hs_states.proofs.state_sets.sets_of.Goals as goal

pub loop-number-preserved : goal.loop-number-preserved
loop-number-preserved c =
    let n = c.loop-number.number in
    sets-more c.args.width c.args.states.now n _ c.loop-number.sets.items c.push_set.new.sets.items c.loop-number.invariant (slice_get-get_or c.args.states.now n _ (omega arith)) c.in_ok-push_set.ensures
