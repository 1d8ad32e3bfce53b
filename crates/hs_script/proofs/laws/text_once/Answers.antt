use Rattle.hs_script.proofs.RunLemmas as runs
use Rattle.hs_script.proofs.laws.text_once.Goals as goal

pub returns : goal.returns
returns c basis files bytes xs ys text text' p q told told' known e = runs.text_once p q told told' known e
