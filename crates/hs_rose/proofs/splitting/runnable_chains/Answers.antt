use Rattle.std.proofs.Common.{map, subst}
use Rattle.hs_expr.specs.Meaning.{tree_of}
use Rattle.hs_pieces.specs.Meaning.{plain_chain}
use Rattle.hs_rose.specs.Runnable.{AreFew}
use Rattle.hs_rose.proofs.SplitLemmas.{split-runnable}
use Rattle.hs_rose.proofs.splitting.runnable_chains.Goals as goal

pub returns-then-are_few-clause-runnable : goal.returns-then-are_few-clause-runnable
returns-then-are_few-clause-runnable c =
    split-runnable (tree_of c.args.expr.now) (map plain_chain c.in_ok-chains.chains.items) c.requires.proper c.requires.plain c.requires.few c.requires.ends_last c.in_ok-chains.ensures.chains
    (subst (λ cs. AreFew (map plain_chain cs)) c.deref.ensures.value (c.are_few.ensures c.if-are_few.true))
