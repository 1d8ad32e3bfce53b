use Rattle.std.proofs.Common.{◌+◌, refl, sym, subst, arith}
use Rattle.hs_kept.specs.Parts.{AreNumbersBefore}
use Rattle.hs_regions.specs.KeptFaults.{IsPartFault}
use Rattle.hs_regions.proofs.KeptFaultLemmas.{field-fault, number-fault}
use Rattle.hs_regions.proofs.PieceLemmas.{each-map}
use Rattle.hs_regions.proofs.WellLemmas.{part-within}
use Rattle.hs_regions.proofs.checking.part_fault.Goals as goal

pub returns-in-None-field_fault-clause-none : goal.returns-in-None-field_fault-clause-none
returns-in-None-field_fault-clause-none g c none =
    (c.in-None.ensures.found, λ kind low high kept lower. c.in-None-field_fault.ensures.none refl kind low high kept (omega (arith, lower, c.region_size.ensures.size)))

pub returns-in-Some-field_fault-clause-first : goal.returns-in-Some-field_fault-clause-first
returns-in-Some-field_fault-clause-first g c literals plan runs =
    let packing = c.args.packing.now in
    let bound = c.region_size.result + 1 in
    let numbers : AreNumbersBefore packing c.args.kept.now bound = each-map packing.fields.items (λ f number _. number) c.in-None.ensures.found in
    subst (IsPartFault plan c.args.kept.now) (sym c.place.ensures)
    (field-fault g.E.Engine.meaning c.args.graph.now c.args.layout.now packing literals plan runs c.args.kept.now c.requires.kept c.args.at c.requires.offset bound c.in-Some-field_fault.low numbers c.in-Some-field_fault.ensures.early c.in-Some-field_fault.ensures.first)

pub returns-in-Some-field_fault-clause-within : goal.returns-in-Some-field_fault-clause-within
returns-in-Some-field_fault-clause-within g c =
    let some = c.requires.runs in
    part-within g.E.Engine.meaning c.args.graph.now c.args.layout.now c.args.packing.now some.literals some.plan some.is c.args.kept.now c.requires.kept c.place.result
    (returns-in-Some-field_fault-clause-first g c some.literals some.plan some.is)

pub returns-in-None-field_fault-2-clause-first : goal.returns-in-None-field_fault-2-clause-first
returns-in-None-field_fault-2-clause-first g c literals plan runs =
    number-fault g.E.Engine.meaning c.args.graph.now c.args.layout.now c.args.packing.now literals plan runs c.args.kept.now c.requires.kept c.args.at c.requires.offset c.in-Some.bound c.in-Some.place c.in-Some.ensures.found
    (c.in-None-field_fault-2.ensures.none refl)

pub returns-in-Some-field_fault-2-clause-first : goal.returns-in-Some-field_fault-2-clause-first
returns-in-Some-field_fault-2-clause-first g c literals plan runs =
    let fault = c.in-Some-field_fault-2.ensures in
    subst (IsPartFault plan c.args.kept.now) (sym c.place-in-Some-field_fault-2.ensures)
    (field-fault g.E.Engine.meaning c.args.graph.now c.args.layout.now c.args.packing.now literals plan runs c.args.kept.now c.requires.kept c.args.at c.requires.offset c.in-Some.bound c.in-Some-field_fault-2.low c.in-Some.ensures.found.before fault.early fault.first)

pub returns-in-Some-field_fault-2-clause-within : goal.returns-in-Some-field_fault-2-clause-within
returns-in-Some-field_fault-2-clause-within g c =
    let some = c.requires.runs in
    part-within g.E.Engine.meaning c.args.graph.now c.args.layout.now c.args.packing.now some.literals some.plan some.is c.args.kept.now c.requires.kept c.place-in-Some-field_fault-2.result
    (returns-in-Some-field_fault-2-clause-first g c some.literals some.plan some.is)
