use Rattle.std.proofs.Common.{◌+◌, ◌*◌, ◌≤◌, length}
use Rattle.hs_nodes.specs.Graphs.{IsGraphSound}
use Rattle.hs_rose.specs.PieceEngines.{piece_meaning}
use Rattle.hs_reports.specs.Events.{Takes}
use Rattle.hs_scan.specs.Feeding.{Finishes}
use Rattle.hs_nodes.specs.WellRegions.{FitsRegion}
use Rattle.hs_scan.specs.Scratches.{ServesGraph}
use Rattle.hs_stream.proofs.RunningLemmas.{as-lent, lasting-lent, lent, lent-as, takes-end}
use Rattle.hs_stream.proofs.running.run_end.Goals as goal

pub finish-requires-clause-sound : goal.finish-requires-clause-sound
finish-requires-clause-sound g c =
    as-lent (lent c.args.db.now c.graph.ensures.graph c.literals.ensures.literals c.layout.ensures.layout) (λ x ls l. IsGraphSound piece_meaning x ls l) (c.graph.ensures.whole.is_of.sound)

pub finish-requires-clause-region : goal.finish-requires-clause-region
finish-requires-clause-region g c =
    as-lent (lent c.args.db.now c.graph.ensures.graph c.literals.ensures.literals c.layout.ensures.layout) (λ x ls l. FitsRegion piece_meaning x l c.args.region.now) (c.requires.region.fits)

pub finish-requires-clause-scratch : goal.finish-requires-clause-scratch
finish-requires-clause-scratch g c =
    as-lent (lent c.args.db.now c.graph.ensures.graph c.literals.ensures.literals c.layout.ensures.layout) (λ x ls l. ServesGraph x (length ls) c.args.scratch.now) (c.requires.scratch)

pub finish-requires-clause-room : goal.finish-requires-clause-room
finish-requires-clause-room g c =
    c.requires.region.header.offset

pub returns-clause-scratch : goal.returns-clause-scratch
returns-clause-scratch g c =
    lent-as (lent c.args.db.now c.graph.ensures.graph c.literals.ensures.literals c.layout.ensures.layout) (λ x ls l. ServesGraph x (length ls) c.finish.new.scratch) (c.finish.ensures.scratch)

pub returns-clause-told : goal.returns-clause-told
returns-clause-told g c =
    takes-end g.V.Events.tells c.args.db.now
    (lent-as (lent c.args.db.now c.graph.ensures.graph c.literals.ensures.literals c.layout.ensures.layout) (λ x ls l. Takes g.V.Events.tells c.args.events.now c.finish.new.events (Finishes piece_meaning x ls l c.args.region.now)) (c.finish.ensures.taken))

pub returns-clause-ticks : goal.returns-clause-ticks
returns-clause-ticks g c =
    lent-as (lent c.args.db.now c.graph.ensures.graph c.literals.ensures.literals c.layout.ensures.layout) (λ x ls l. c.finish.new.steps ≤ c.args.steps.now + 16 * length x.table.nodes.items) (c.finish.ensures.ticks)

pub invariant_of-tables : goal.invariant_of-tables
invariant_of-tables g c = record { lasting_are = lasting-lent c.args.db.now c.lasting.result c.graph.result.now c.literals.result.now c.graph.ensures.graph c.literals.ensures.literals c.lasting.ensures.whole c.lasting.ensures.some }
