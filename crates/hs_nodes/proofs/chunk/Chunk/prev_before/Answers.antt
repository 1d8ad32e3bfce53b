use Rattle.std.proofs.Common.{◌∙◌, arith}
use Rattle.hs_nodes.proofs.ChunkLemmas.{prev-first, prev-later}
use Rattle.hs_nodes.proofs.chunk.Chunk.prev_before.Goals as goal

pub returns-then-number-eq0 : goal.returns-then-number-eq0
returns-then-number-eq0 c u is = is ∙ prev-first u c.args.self.now.bytes.now c.args.number c.if-number-eq0.true

pub returns : goal.returns
returns c u is = c.behind.ensures ∙ prev-later u c.args.self.now.bytes.now c.args.number c.if-number-eq0.false (omega arith)
