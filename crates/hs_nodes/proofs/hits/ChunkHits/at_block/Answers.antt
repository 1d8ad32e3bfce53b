use Rattle.std.proofs.Common.{◌∙◌}
use Rattle.hs_nodes.proofs.LiteralLemmas.{hit-first}
use Rattle.hs_nodes.proofs.hits.ChunkHits.at_block.Goals as goal

pub returns : goal.returns
returns c = c.contains_place.ensures ∙ hit-first c.args.self.now c.args.number c.if-number-eq0.false
