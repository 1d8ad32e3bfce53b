use Rattle.hs_compile.proofs.EntryLemmas.{single-asked}
use Rattle.hs_compile.proofs.seen.asks_single.Goals as goal

pub returns : goal.returns
returns c = single-asked c.contains.result c.args.entry.now.flags.0 c.contains.ensures
