use Rattle.hs_lazy.proofs.TraceLemmas.{most-more}
use Rattle.hs_lazy.proofs.dfa.are_silent.Goals as goal

pub loop-place-preserved : goal.loop-place-preserved
loop-place-preserved c = record { most = most-more c.args.trace.now c.args.from c.loop-place.place c.loop-place.all c.loop-place.invariant.most }
