use Rattle.std.proofs.Common.{arith}
use Rattle.hs_limex.specs.LimexEngines.{moves_of_limex}
use Rattle.hs_rose.specs.PositionEngines.{meaning_of_positions}
use Rattle.hs_rose.proofs.StreamingLemmas.{runs-streams, tried-takes}
use Rattle.hs_rose.proofs.TimelessLemmas.{engine-tells}
use Rattle.hs_rose.proofs.positions.PositionEngine.take_whole.Goals as goal

pub returns-in-Some-clause-takes : goal.returns-in-Some-clause-takes
returns-in-Some-clause-takes g c =
    let e = c.args.self.now in
    let s = c.in-Some.streams in
    tried-takes (meaning_of_positions e) s c.args.region.now c.run.new.region c.args.prev c.args.at c.args.enters c.args.bytes.now c.run.result c.args.steps.now c.run.new.steps
    (runs-streams s (moves_of_limex e.limex) (engine-tells e s c.in-Some.is)) c.requires.len c.requires.well (λ i. let b = c.type_inv.bytes i in omega (arith, b)) c.run.ensures
