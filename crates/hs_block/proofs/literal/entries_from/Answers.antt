use Rattle.hs_block.proofs.LiteralWordLemmas.{entries-near, entries-far}
use Rattle.hs_block.proofs.literal.entries_from.Goals as goal

pub returns-then-from-len : goal.returns-then-from-len
returns-then-from-len c i below = entries-near c.args.len c.args.enters c.args.carry c.args.from c.low_places.result i c.if-from-len.true c.low_places.ensures below

pub returns-else-from-len : goal.returns-else-from-len
returns-else-from-len c i below = entries-far c.args.len c.args.enters c.args.carry c.args.from i c.if-from-len.false
