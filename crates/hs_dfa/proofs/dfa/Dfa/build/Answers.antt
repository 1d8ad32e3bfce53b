use Rattle.hs_states.proofs.TransferLemmas.{states-by}
use Rattle.std.proofs.Common.{subst, sym}
use Rattle.hs_base.specs.WrittenOut.{write_out}
use Rattle.hs_states.specs.DfaStates.{AreStatesOf}
use Rattle.hs_dfa.proofs.dfa.Dfa.build.Goals as goal

pub returns-in_default-clause-none : goal.returns-in_default-clause-none
returns-in_default-clause-none c e tree runs flag states all few =
    let a = c.args.automaton.now in
    c.in_ok-subsets.ensures.none c.in_default.is states (states-by a (write_out tree) runs.tables a.has_assertion states (subst (λ h. AreStatesOf (write_out tree) h states) (sym flag) all)) few
