use Rattle.std.proofs.Common.{◌+◌, refl, subst, arith}
use Rattle.std.specs.Prelude.{slice_range}
use Rattle.hs_base.specs.declared.context.Prev.{Prev}
use Rattle.hs_nodes.specs.Lone.{CatchesUp}
use Rattle.hs_nodes.proofs.CatchLemmas.{scan-catches}
use Rattle.hs_nodes.proofs.RangeLemmas.{range-length}
use Rattle.hs_nodes.proofs.RunLemmas.{steps-few}
use Rattle.hs_nodes.proofs.catching_up.take_bytes.Goals as goal

pub returns-clause-ticks : goal.returns-clause-ticks
returns-clause-ticks g c =
    let own = slice_range c.args.chunk.now.bytes.now c.args.from c.args.end in
    let size = range-length c.args.chunk.now.bytes.now c.args.from c.args.end (omega (arith, c.requires.low)) c.requires.high in
    let few = steps-few (g.E.Engine.meaning c.args.engine.now) _ _ _ _ _ own c.run.result c.args.steps.now c.run.new.steps c.run.ensures.takes in
    omega (arith, few, size, c.requires.low)

pub returns-clause-catches : goal.returns-clause-catches
returns-clause-catches g c u is =
    let m = g.E.Engine.meaning c.args.engine.now in
    let own = slice_range c.args.chunk.now.bytes.now c.args.from c.args.end in
    let at = c.args.chunk.now.at + c.args.from in
    let size = range-length c.args.chunk.now.bytes.now c.args.from c.args.end (omega (arith, c.requires.low)) c.requires.high in
    subst (λ (p : Prev). CatchesUp m c.args.region.now c.run.new.region p at own) (c.prev_at-prev.ensures u is)
    (scan-catches m c.args.region.now c.run.new.region c.prev_at-prev.result at 18446744073709551615 own c.run.result refl (omega (arith, size, c.requires.few)) c.run.ensures.takes.run.scans)
