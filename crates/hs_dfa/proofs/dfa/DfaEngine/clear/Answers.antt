use Rattle.std.proofs.Common.{[], subst, sym}
use Rattle.hs_base.specs.WrittenOut.{write_out}
use Rattle.hs_dfa.specs.DfaEngines.{IsNumberOf}
use Rattle.hs_dfa.proofs.DfaLemmas.{one-set, start-number}
use Rattle.hs_dfa.proofs.dfa.DfaEngine.clear.Goals as goal

pub returns-clause-starts : goal.returns-clause-starts
returns-clause-starts c tree is =
    let d = c.args.self.now in
    subst (IsNumberOf (write_out tree) d.has_assertion [] []) (sym (one-set c.args.region.now 0 c.requires)) (start-number d tree is)
