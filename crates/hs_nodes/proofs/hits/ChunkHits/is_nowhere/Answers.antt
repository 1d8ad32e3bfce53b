use Rattle.hs_nodes.proofs.SpareLemmas.{hits-nowhere}
use Rattle.hs_nodes.proofs.hits.ChunkHits.is_nowhere.Goals as goal

pub returns : goal.returns
returns c = hits-nowhere c.args.self.now c.is_unset.result c.is_unset.ensures.0
