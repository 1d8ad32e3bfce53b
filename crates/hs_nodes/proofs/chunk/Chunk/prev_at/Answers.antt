use Rattle.hs_nodes.proofs.CatchLemmas.{place-first, place-later}
use Rattle.std.proofs.Common.{◌∙◌}
use Rattle.hs_nodes.proofs.chunk.Chunk.prev_at.Goals as goal

pub returns-then-place-eq0 : goal.returns-then-place-eq0
returns-then-place-eq0 c u is = is ∙ place-first u c.args.self.now.bytes.now c.args.place c.if-place-eq0.true

pub returns : goal.returns
returns c u is = place-later u c.args.self.now.bytes.now c.args.place c.behind.result c.if-place-eq0.false c.requires c.behind.ensures
