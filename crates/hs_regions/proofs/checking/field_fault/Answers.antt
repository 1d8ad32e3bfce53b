use Rattle.std.proofs.Common.{◌≤◌, refl, arith}
use Rattle.hs_kept.specs.Packing.{unpacked, unpacked_size}
use Rattle.hs_regions.proofs.FaultLemmas.{copy-alone, fault-within, least-fault, node-alone, some-map}
use Rattle.hs_regions.proofs.PartInLemmas.{copies-in, parts-in, some-both}
use Rattle.hs_regions.proofs.WellLemmas.{laid-is}
use Rattle.hs_regions.proofs.checking.field_fault.Goals as goal

pub node_fault-requires-clause-parts : goal.node_fault-requires-clause-parts
node_fault-requires-clause-parts g c =
    let some = c.requires.runs in
    parts-in g.E.Engine.meaning c.args.graph.now c.args.layout.now c.args.packing.now some.literals some.plan some.is

pub copy_fault-requires-clause-parts : goal.copy_fault-requires-clause-parts
copy_fault-requires-clause-parts g c =
    let some = c.requires.runs in
    parts-in g.E.Engine.meaning c.args.graph.now c.args.layout.now c.args.packing.now some.literals some.plan some.is

pub copy_fault-requires-clause-copies : goal.copy_fault-requires-clause-copies
copy_fault-requires-clause-copies g c =
    let some = c.requires.runs in
    copies-in g.E.Engine.meaning c.args.graph.now c.args.layout.now c.args.packing.now some.literals some.plan some.is

pub copy_fault-requires-2-clause-parts : goal.copy_fault-requires-2-clause-parts
copy_fault-requires-2-clause-parts g c =
    let some = c.requires.runs in
    parts-in g.E.Engine.meaning c.args.graph.now c.args.layout.now c.args.packing.now some.literals some.plan some.is

pub copy_fault-requires-2-clause-copies : goal.copy_fault-requires-2-clause-copies
copy_fault-requires-2-clause-copies g c =
    let some = c.requires.runs in
    copies-in g.E.Engine.meaning c.args.graph.now c.args.layout.now c.args.packing.now some.literals some.plan some.is

pub returns-in_default-clause-first : goal.returns-in_default-clause-first
returns-in_default-clause-first g c =
    let some = c.requires.runs in
    let region = unpacked c.args.packing.now c.args.kept.now in
    some-both c.copy_fault.result
    (λ place fault early. copy-alone g.E.Engine.meaning c.args.graph.now some.literals c.args.layout.now some.is.sound region c.args.at place c.args.bound early (c.in_default.ensures.none refl) fault)
    c.copy_fault.ensures.first c.copy_fault.ensures.early

pub returns-in_default-clause-within : goal.returns-in_default-clause-within
returns-in_default-clause-within g c =
    let some = c.requires.runs in
    let region = unpacked c.args.packing.now c.args.kept.now in
    some-map c.copy_fault.result
    (λ place fault.
    let inside = fault-within g.E.Engine.meaning c.args.graph.now some.literals c.args.layout.now some.is.sound region c.args.at place fault in
    let same = laid-is g.E.Engine.meaning c.args.graph.now c.args.layout.now c.args.packing.now some.literals some.plan some.is c.args.kept.now c.requires.kept in
    let e : place ≤ unpacked_size c.args.packing.now = omega (arith, inside, same) in
    e)
    (returns-in_default-clause-first g c)

pub returns-in_default-copy_fault-clause-first : goal.returns-in_default-copy_fault-clause-first
returns-in_default-copy_fault-clause-first g c =
    let some = c.requires.runs in
    let region = unpacked c.args.packing.now c.args.kept.now in
    node-alone g.E.Engine.meaning c.args.graph.now some.literals c.args.layout.now some.is.sound region c.args.at c.in-Some.own c.args.bound c.in-Some.ensures.early (c.in_default-copy_fault.ensures.none refl) c.in-Some.ensures.first

pub returns-in_default-copy_fault-clause-within : goal.returns-in_default-copy_fault-clause-within
returns-in_default-copy_fault-clause-within g c =
    let some = c.requires.runs in
    let region = unpacked c.args.packing.now c.args.kept.now in
    let inside =
    fault-within g.E.Engine.meaning c.args.graph.now some.literals c.args.layout.now some.is.sound region c.args.at c.in-Some.own (returns-in_default-copy_fault-clause-first g c) in
    let same = laid-is g.E.Engine.meaning c.args.graph.now c.args.layout.now c.args.packing.now some.literals some.plan some.is c.args.kept.now c.requires.kept in
    omega (arith, inside, same)

pub returns-clause-first : goal.returns-clause-first
returns-clause-first g c =
    let some = c.requires.runs in
    let region = unpacked c.args.packing.now c.args.kept.now in
    least-fault g.E.Engine.meaning c.args.graph.now some.literals c.args.layout.now some.is.sound region c.args.at c.in-Some.own c.in-Some-copy_fault.copied c.min.result c.min.ensures c.in-Some.ensures.first c.in-Some-copy_fault.ensures.first

pub returns-clause-within : goal.returns-clause-within
returns-clause-within g c =
    let some = c.requires.runs in
    let region = unpacked c.args.packing.now c.args.kept.now in
    let inside = fault-within g.E.Engine.meaning c.args.graph.now some.literals c.args.layout.now some.is.sound region c.args.at c.min.result (returns-clause-first g c) in
    let same = laid-is g.E.Engine.meaning c.args.graph.now c.args.layout.now c.args.packing.now some.literals some.plan some.is c.args.kept.now c.requires.kept in
    omega (arith, inside, same)
