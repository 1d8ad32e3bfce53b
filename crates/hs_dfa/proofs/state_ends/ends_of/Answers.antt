use Rattle.std.proofs.Common.{subst, sym, arith, ◌+◌}
use Rattle.std.proofs.lemmas.Option.{slice_get-get_or}
use Rattle.hs_dfa.specs.StateEnds.{AreEndsOf}
use Rattle.hs_dfa.proofs.EndLemmas.{ends-more}
use Rattle.hs_dfa.proofs.state_ends.ends_of.Goals as goal

pub loop-number-preserved : goal.loop-number-preserved
loop-number-preserved c =
    let n = c.loop-number.number in
    subst (AreEndsOf c.args.automaton.now c.args.states.now (n + 1)) (sym c.in_ok-push.ensures.items)
    (ends-more c.args.automaton.now c.args.states.now n c.loop-number.ends.items _ c.end_of.result c.loop-number.invariant (slice_get-get_or c.args.states.now n _ (omega arith)) c.end_of.ensures)
