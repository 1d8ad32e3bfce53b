use Rattle.std.proofs.Common.{◌+◌, ◌*◌, ◌≡◌, ◌∙◌, List, ℕ, true, false, length, sym, ap, subst}
use Rattle.hs_base.specs.declared.context.Prev.{Prev}
use Rattle.hs_nodes.specs.Starting.{ScansBlock}
use Rattle.hs_nodes.proofs.RunLemmas.{steps-few}
use Rattle.hs_nodes.proofs.engines.run_busy.Goals as goal

pub returns-in-Some-clause-len : goal.returns-in-Some-clause-len
returns-in-Some-clause-len g c = c.in-Some.ensures.scans.0 ∙ c.requires.len

pub returns-in-Some-clause-well : goal.returns-in-Some-clause-well
returns-in-Some-clause-well g c = c.in-Some.ensures.scans.1 _

pub returns-in-Some-clause-scans : goal.returns-in-Some-clause-scans
returns-in-Some-clause-scans g c u stands =
    subst (λ (p : Prev). ScansBlock (g.E.Engine.meaning c.args.numbered.now.engine.now) c.args.region.now c.run_pooled.new.region p (c.args.chunk.now.at + 64 * c.args.number) c.args.enters c.args.bytes.now c.in-Some.ends) (c.prev_before-prev.ensures u stands) (c.in-Some.ensures.scans.2 (c.args.chunk.now.at + 64 * c.args.number))

pub run-requires-clause-len : goal.run-requires-clause-len
run-requires-clause-len g c = ap length c.in_default.ensures.scans ∙ c.requires.len

pub run-requires-clause-well : goal.run-requires-clause-well
run-requires-clause-well g c = subst (λ (r : List ℕ). (g.E.Engine.meaning c.args.numbered.now.engine.now).well r (c.args.chunk.now.at + 64 * c.args.number)) (sym c.in_default.ensures.scans) c.requires.well

pub run-requires-clause-throughout : goal.run-requires-clause-throughout
run-requires-clause-throughout g c always = absurd (let both : true ≡ false = sym always ∙ c.requires.listed in cc)

pub returns-clause-ticks : goal.returns-clause-ticks
returns-clause-ticks g c = steps-few (g.E.Engine.meaning c.args.numbered.now.engine.now) _ _ _ _ _ c.args.bytes.now c.run.result c.args.steps.now c.run.new.steps c.run.ensures.takes

pub returns-clause-scans : goal.returns-clause-scans
returns-clause-scans g c u stands =
    subst (λ (p : Prev). ScansBlock (g.E.Engine.meaning c.args.numbered.now.engine.now) c.args.region.now c.run.new.region p (c.args.chunk.now.at + 64 * c.args.number) c.args.enters c.args.bytes.now c.run.result) (c.prev_before-prev.ensures u stands)
    (subst (λ (r : List ℕ). ScansBlock (g.E.Engine.meaning c.args.numbered.now.engine.now) r c.run.new.region c.prev_before-prev.result (c.args.chunk.now.at + 64 * c.args.number) c.args.enters c.args.bytes.now c.run.result) c.in_default.ensures.scans c.run.ensures.takes.run.scans)
