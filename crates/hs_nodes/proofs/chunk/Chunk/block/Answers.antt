use Rattle.hs_nodes.proofs.ChunkLemmas.{slice-block_to}
use Rattle.hs_nodes.proofs.chunk.Chunk.block.Goals as goal

pub returns-clause-bytes : goal.returns-clause-bytes
returns-clause-bytes c = slice-block_to c.args.self.now.bytes.now c.args.number c.min-end.result c.min-end.ensures c.requires
