use Rattle.std.proofs.Common.{subst, sym, arith}
use Rattle.hs_layout.specs.Layouts.{laid_size}
use Rattle.hs_nodes.specs.Living.{AreInTurn, IsAround}
use Rattle.hs_scan.proofs.MadeLemmas.{in-turn, makes-join, passed-copy, passed-node, spot-copy}
use Rattle.hs_scan.proofs.copying.copy_byte.Goals as goal

pub node_around-spot-requires-clause-turn : goal.node_around-spot-requires-clause-turn
node_around-spot-requires-clause-turn g c =
    (laid_size c.args.layout.now, subst (λ ns. AreInTurn ns (laid_size c.args.layout.now)) (sym c.deref.ensures.value) (in-turn c.args.graph.now c.args.layout.now c.requires.fits))

pub returns-in-Some-clause-passed : goal.returns-in-Some-clause-passed
returns-in-Some-clause-passed g c = passed-node c.args.graph.now c.args.layout.now c.requires.fits c.args.place c.args.spot.now c.requires.from c.requires.spot c.copy_kept.new.region c.node_around-spot.result c.in-Some.end (c.in-Some.ensures.some)

pub returns-clause-makes : goal.returns-clause-makes
returns-clause-makes g c =
    makes-join c.args.graph.now c.args.layout.now c.requires.fits c.args.region.now c.copy_kept.new.region c.copy_into-spot.new.region c.requires.sized c.copy_kept.ensures.makes c.copy_into-spot.ensures.makes

pub returns-clause-spot : goal.returns-clause-spot
returns-clause-spot g c =
    let nodes = c.args.graph.now.table.nodes.items in
    let spot = c.args.spot.now in
    let around = subst (λ ns. IsAround ns spot.node c.args.place c.node_around-spot.result) c.deref.ensures.value c.node_around-spot.ensures in
    (spot-copy c.args.graph.now c.args.layout.now c.requires.fits c.args.place spot c.requires.from c.requires.spot c.copy_into-spot.new.region c.node_around-spot.result c.copy_around-spot.result c.copy_into-spot.result
    (omega (arith, c.requires.room, c.requires.sized)) around c.copy_around-spot.ensures c.copy_into-spot.ensures.goes_on).1.1

pub returns-clause-within : goal.returns-clause-within
returns-clause-within g c =
    let spot = c.args.spot.now in
    let around = subst (λ ns. IsAround ns spot.node c.args.place c.node_around-spot.result) c.deref.ensures.value c.node_around-spot.ensures in
    let end = (spot-copy c.args.graph.now c.args.layout.now c.requires.fits c.args.place spot c.requires.from c.requires.spot c.copy_into-spot.new.region c.node_around-spot.result c.copy_around-spot.result c.copy_into-spot.result
    (omega (arith, c.requires.room, c.requires.sized)) around c.copy_around-spot.ensures c.copy_into-spot.ensures.goes_on).1.0 in
    omega (arith, end, c.requires.sized)

pub returns-clause-passed : goal.returns-clause-passed
returns-clause-passed g c =
    let spot = c.args.spot.now in
    let around = subst (λ ns. IsAround ns spot.node c.args.place c.node_around-spot.result) c.deref.ensures.value c.node_around-spot.ensures in
    passed-copy c.args.graph.now c.args.layout.now c.requires.fits c.args.place spot c.requires.from c.requires.spot c.copy_into-spot.new.region c.node_around-spot.result c.copy_around-spot.result c.copy_into-spot.result
    around (c.copy_kept.ensures.none c.in_default.is) c.copy_around-spot.ensures c.copy_into-spot.ensures.goes_on
