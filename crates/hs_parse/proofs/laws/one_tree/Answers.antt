use Rattle.hs_parse.proofs.GrammarLemmas.{one_tree}
use Rattle.hs_parse.proofs.laws.one_tree.Goals as goal

pub returns : goal.returns
returns c = one_tree
