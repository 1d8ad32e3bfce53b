use Rattle.hs_bits.proofs.ContextLemmas.{part-bit}
use Rattle.hs_bits.proofs.contexts.Contexts.part.Goals as goal

pub returns : goal.returns
returns c first bytes are =
    part-bit c.args.self.now c.args.mask first c.args.prev bytes c.behind_prev.result c.among.result c.row.result are c.behind_prev.ensures c.among.ensures c.row.ensures
