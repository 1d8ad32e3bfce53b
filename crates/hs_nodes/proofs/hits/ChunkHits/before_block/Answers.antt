use Rattle.std.proofs.Common.{refl}
use Rattle.hs_nodes.proofs.PairLemmas.{places-before}
use Rattle.hs_nodes.proofs.hits.ChunkHits.before_block.Goals as goal

pub returns : goal.returns
returns c i low = places-before c.args.self.now c.args.number _ c.at_block.result c.at_block.ensures refl i low
