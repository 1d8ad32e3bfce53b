use Rattle.std.proofs.Common.{◌+◌, ◌*◌}
use Rattle.hs_nodes.proofs.StartingLemmas.{quiet-scans}
use Rattle.hs_nodes.proofs.engines.run_block.Goals as goal

pub returns-then-is_zero-clause-scans : goal.returns-then-is_zero-clause-scans
returns-then-is_zero-clause-scans g c u stands =
    let idle = c.requires.idle c.args.region.now c.requires.len (c.is_zero.ensures.0 c.if-is_zero.true) in
    quiet-scans (g.E.Engine.meaning c.args.numbered.now.engine.now) c.args.region.now _ (c.args.chunk.now.at + 64 * c.args.number) c.args.enters c.args.bytes.now c.requires.listed idle.rests.quiet (λ i low. (c.type_inv.bytes i).fits) c.if-enters-eq0.true

pub returns-then-is_zero-clause-well : goal.returns-then-is_zero-clause-well
returns-then-is_zero-clause-well g c = (c.requires.idle c.args.region.now c.requires.len (c.is_zero.ensures.0 c.if-is_zero.true)).rests.well _
