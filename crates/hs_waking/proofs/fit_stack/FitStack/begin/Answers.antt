use Rattle.std.proofs.Common.{arith, sym, ap}
use Rattle.hs_waking.specs.declared.wake_row.WakeRow.{WakeRow}
use Rattle.hs_waking.proofs.FitStackLemmas.{begun-level}
use Rattle.hs_waking.proofs.fit_stack.FitStack.begin.Goals as goal

pub returns-then-self-gt0-clause-levels : goal.returns-then-self-gt0-clause-levels
returns-then-self-gt0-clause-levels c = c.turn_to.ensures.levels c.args.sets.now c.args.prev c.args.bytes.now c.requires.levels

pub returns-clause-levels : goal.returns-clause-levels
returns-clause-levels c =
    begun-level c.args.row.now c.turn_to.new.self.row c.args.sets.now c.args.prev c.args.bytes.now c.turn_to.new.self.levels c.begun_places.result (omega (arith, c.turn_to.new.self.levels_room)) (sym (ap (λ (r : WakeRow). r.behind) c.turn_to.ensures.row)) c.begun_places.ensures.places
