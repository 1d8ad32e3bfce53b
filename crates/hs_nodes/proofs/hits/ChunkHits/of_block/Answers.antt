use Rattle.std.proofs.Common.{refl}
use Rattle.hs_nodes.proofs.LiteralLemmas.{hits-of}
use Rattle.hs_nodes.proofs.hits.ChunkHits.of_block.Goals as goal

pub returns : goal.returns
returns c = hits-of c.args.self.now _ c.args.number c.at_block.ensures refl
