use Rattle.std.proofs.Common.{◌∙◌, ap}
use Rattle.hs_base.specs.ContextSets.{has_next}
use Rattle.hs_rose.specs.PositionEngines.{meaning_of_positions}
use Rattle.hs_rose.proofs.TimelessLemmas.{step-taken}
use Rattle.hs_rose.proofs.positions.PositionEngine.take_by.Goals as goal

pub returns-clause-takes : goal.returns-clause-takes
returns-clause-takes c =
    step-taken (meaning_of_positions c.args.self.now) c.args.region.now c.move_by.new.region c.args.prev c.behind.result c.args.enters c.args.byte c.leaves.result c.leaves-2.result _ c.leaves.ensures
    c.move_by.ensures.well c.move_by.ensures.takes c.leaves-2.ensures c.behind.ensures
    (c.contains-before.ensures ∙ ap (has_next c.leaves.result) c.class_of.ensures) c.contains-behind.ensures
