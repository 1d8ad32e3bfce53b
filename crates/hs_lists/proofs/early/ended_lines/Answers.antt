use Rattle.hs_lists.proofs.SettledLemmas.{lines-at, lines-none}
use Rattle.hs_lists.proofs.early.ended_lines.Goals as goal

pub returns-in-None : goal.returns-in-None
returns-in-None c = lines-none c.args.bytes.now c.in-None.ensures

pub returns-in-Some : goal.returns-in-Some
returns-in-Some c = lines-at c.args.bytes.now c.in-Some.at c.in-Some.ensures.0 c.in-Some.ensures.1
