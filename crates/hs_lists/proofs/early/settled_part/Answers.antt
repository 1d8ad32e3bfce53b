use Rattle.hs_lists.proofs.SettledLemmas.{settled-all, settled-lines}
use Rattle.hs_lists.proofs.early.settled_part.Goals as goal

pub returns-then-begins_bad_line : goal.returns-then-begins_bad_line
returns-then-begins_bad_line c = settled-all c.args.bytes.now _ _ c.ended_lines.ensures (c.begins_bad_line.ensures c.if-begins_bad_line.true)

pub returns-else-begins_bad_line : goal.returns-else-begins_bad_line
returns-else-begins_bad_line c = settled-lines c.args.bytes.now _ _ c.ended_lines.ensures
