use Rattle.std.proofs.Common.{◌+◌, ◌*◌, ◌≤◌, ◌∙◌, length, sym, ap}
use Rattle.hs_layout.specs.Layouts.{laid_size}
use Rattle.hs_nodes.specs.Graphs.{IsGraphSound}
use Rattle.hs_rose.specs.PieceEngines.{piece_meaning}
use Rattle.hs_reports.specs.Events.{Takes}
use Rattle.hs_scan.specs.Feeding.{Feeds}
use Rattle.hs_scan.specs.NodeCaches.{IsNodeCacheOf}
use Rattle.hs_nodes.specs.WellRegions.{FitsRegion, IsWellRegion}
use Rattle.hs_scan.specs.Scratches.{ServesGraph}
use Rattle.hs_stream.proofs.RunningLemmas.{as-lent, each-by, lasting-lent, lent, lent-as, lone-lent, takes-scan}
use Rattle.hs_stream.proofs.running.run_bytes.Goals as goal

pub scan-requires-clause-sound : goal.scan-requires-clause-sound
scan-requires-clause-sound g c =
    as-lent (lent c.args.db.now c.graph.ensures.graph c.literals.ensures.literals c.layout.ensures.layout) (λ x ls l. IsGraphSound piece_meaning x ls l) (c.graph.ensures.whole.is_of.sound)

pub scan-requires-clause-lone : goal.scan-requires-clause-lone
scan-requires-clause-lone g c =
    lone-lent c.args.db.now c.lone.result.now c.graph.result.now c.graph.ensures.graph c.lone.ensures.lone c.graph.ensures.whole

pub scan-requires-clause-region : goal.scan-requires-clause-region
scan-requires-clause-region g c =
    as-lent (lent c.args.db.now c.graph.ensures.graph c.literals.ensures.literals c.layout.ensures.layout) (λ x ls l. FitsRegion piece_meaning x l c.args.region.now) (c.requires.region.fits)

pub scan-requires-clause-scratch : goal.scan-requires-clause-scratch
scan-requires-clause-scratch g c =
    as-lent (lent c.args.db.now c.graph.ensures.graph c.literals.ensures.literals c.layout.ensures.layout) (λ x ls l. ServesGraph x (length ls) c.args.scratch.now) (c.requires.scratch)

pub returns-clause-region : goal.returns-clause-region
returns-clause-region g c =
    lent-as (lent c.args.db.now c.graph.ensures.graph c.literals.ensures.literals c.layout.ensures.layout) (λ x ls l. IsWellRegion piece_meaning x l c.scan.new.region) (c.scan.ensures.well (as-lent (lent c.args.db.now c.graph.ensures.graph c.literals.ensures.literals c.layout.ensures.layout) (λ x ls l. IsWellRegion piece_meaning x l c.args.region.now) (c.requires.region)))

pub returns-clause-len : goal.returns-clause-len
returns-clause-len g c =
    c.scan.ensures.region.sized ∙ (ap laid_size c.layout.ensures.layout ∙ sym c.requires.region.fits.sized)

pub returns-clause-scratch : goal.returns-clause-scratch
returns-clause-scratch g c =
    lent-as (lent c.args.db.now c.graph.ensures.graph c.literals.ensures.literals c.layout.ensures.layout) (λ x ls l. ServesGraph x (length ls) c.scan.new.scratch) (c.scan.ensures.scratch)

pub returns-clause-small : goal.returns-clause-small
returns-clause-small g c = each-by c.scan.new.region (λ k. (c.type_inv.region k).fits)

pub returns-clause-told : goal.returns-clause-told
returns-clause-told g c =
    takes-scan g.V.Events.tells c.args.db.now (each-by c.args.bytes.now (λ k. (c.type_inv.bytes k).fits))
    (lent-as (lent c.args.db.now c.graph.ensures.graph c.literals.ensures.literals c.layout.ensures.layout) (λ x ls l. Takes g.V.Events.tells c.args.events.now c.scan.new.events (Feeds piece_meaning x ls l c.args.region.now c.scan.new.region c.args.bytes.now)) (c.scan.ensures.taken))

pub returns-clause-ticks : goal.returns-clause-ticks
returns-clause-ticks g c =
    lent-as (lent c.args.db.now c.graph.ensures.graph c.literals.ensures.literals c.layout.ensures.layout) (λ x ls l. c.scan.new.steps ≤ c.args.steps.now + 48 * (length x.table.nodes.items * length c.args.bytes.now)) (c.scan.ensures.ticks)

pub scan-requires-clause-cache : goal.scan-requires-clause-cache
scan-requires-clause-cache g c =
    as-lent (lent c.args.db.now c.graph.ensures.graph c.literals.ensures.literals c.layout.ensures.layout) (λ x ls l. IsNodeCacheOf piece_meaning x.table c.args.states.now) (c.requires.states)

pub returns-clause-states : goal.returns-clause-states
returns-clause-states g c =
    lent-as (lent c.args.db.now c.graph.ensures.graph c.literals.ensures.literals c.layout.ensures.layout) (λ x ls l. IsNodeCacheOf piece_meaning x.table c.scan.new.cache) (c.scan.ensures.cache)

pub invariant_of-tables : goal.invariant_of-tables
invariant_of-tables g c = record { lasting_are = lasting-lent c.args.db.now c.lasting.result c.graph.result.now c.literals.result.now c.graph.ensures.graph c.literals.ensures.literals c.lasting.ensures.whole c.lasting.ensures.some }
