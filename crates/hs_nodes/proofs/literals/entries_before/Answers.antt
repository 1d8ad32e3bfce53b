use Rattle.hs_nodes.proofs.TailLemmas.{before-bits}
use Rattle.hs_nodes.proofs.literals.entries_before.Goals as goal

pub returns : goal.returns
returns c i low some = before-bits c.args.enters.now.before c.args.len c.args.number i c.requires.short low some
