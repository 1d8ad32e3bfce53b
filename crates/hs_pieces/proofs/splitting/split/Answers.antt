use Rattle.std.proofs.Common.{sym, subst}
use Rattle.hs_expr.specs.Meaning.{tree_of}
use Rattle.hs_pieces.specs.Proper.{AreProperChains}
use Rattle.hs_pieces.proofs.FitLemmas.{chains-proper}
use Rattle.hs_pieces.proofs.splitting.split.Goals as goal

pub returns-clause-proper : goal.returns-clause-proper
returns-clause-proper c proper =
    let same = rw c.new-chains.ensures.items at c.in_ok-push_chains.ensures in
    subst AreProperChains (sym same) (chains-proper (tree_of c.args.expr.now) proper)
