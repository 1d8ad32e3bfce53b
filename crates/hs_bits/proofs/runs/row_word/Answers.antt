use Rattle.hs_bits.proofs.RunLemmas.{looked-at}
use Rattle.hs_bits.proofs.runs.row_word.Goals as goal

pub returns-then-word-class : goal.returns-then-word-class
returns-then-word-class c i small = looked-at c.args.class c.args.reached c.args.again c.spread-word.result c.if-word-class.true i small
