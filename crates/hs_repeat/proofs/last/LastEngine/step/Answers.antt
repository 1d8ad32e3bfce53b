use Rattle.std.proofs.Common.{◌∙◌, ◌<◌, ℕ, ap, arith}
use Rattle.hs_base.specs.Contexts.{class_of}
use Rattle.hs_base.specs.ContextSets.{has_next}
use Rattle.hs_base.specs.RepeatRows.{distance_of}
use Rattle.hs_repeat.proofs.LastLawLemmas.{last-step}
use Rattle.hs_repeat.proofs.last.LastEngine.step.Goals as goal

pub returns-clause-takes : goal.returns-clause-takes
returns-clause-takes g c tree u entered runs len at prev last =
    let kept = c.args.self.now.nearest in
    let b : ℕ = c.args.byte in
    let byte : b < 256 = omega arith in
    last-step kept.set kept.bound (distance_of c.args.region.now) c.read.result c.next_distance-distance.result (distance_of c.write.new.row) u entered c.args.byte c.contains-entering.result
    (has_next c.args.enter (class_of c.args.byte)) (omega (arith, kept.some)) byte len c.read.ensures c.write.ensures.value c.next_distance-distance.ensures.moves
    (c.contains-entering.ensures ∙ ap (has_next c.args.enter) c.class_of.ensures) last
