use Rattle.std.proofs.Common.{◌≡◌, ◌+◌, ◌≤◌, ◌∙◌, true, false, Some, length, refl, sym, subst, arith}
use Rattle.hs_base.specs.Regions.{IsHeader, fields_at}
use Rattle.hs_kept.specs.Packing.{unpacked, unpacked_size}
use Rattle.hs_layout.specs.HeaderFaults.{IsHeaderFault}
use Rattle.hs_regions.specs.Faults.{AreFieldsWellBefore}
use Rattle.hs_regions.specs.KeptFaults.{header, part}
use Rattle.hs_regions.proofs.FaultLemmas.{some-map}
use Rattle.hs_regions.proofs.WellLemmas.{counts-as, each-by, header-room, none-found, plan-counts, well-packed}
use Rattle.hs_regions.proofs.checking.first_fault.Goals as goal

pub header_fault-requires-clause-there : goal.header_fault-requires-clause-there
header_fault-requires-clause-there g c =
    let some = c.requires.runs in
    let l = c.args.layout.now in
    let count = c.len.ensures ∙ (c.args.graph.now.identifiers.ok.0 ∙ some.is.sound.fits.identifiers) in
    counts-as (λ s i. fields_at s i ≤ length c.args.kept.now) c.singles.result c.len.result l.singles l.identifiers c.singles.ensures count
    (header-room g.E.Engine.meaning c.args.graph.now l c.args.packing.now some.literals some.plan some.is c.args.kept.now c.requires.kept)

pub offset_in-requires : goal.offset_in-requires
offset_in-requires g c =
    let some = c.requires.runs in
    let room = header-room g.E.Engine.meaning c.args.graph.now c.args.layout.now c.args.packing.now some.literals some.plan some.is c.args.kept.now c.requires.kept in
    record { there = omega (arith, room) }

pub returns-in-Some-clause-first : goal.returns-in-Some-clause-first
returns-in-Some-clause-first g c literals plan runs =
    let l = c.args.layout.now in
    let count = c.len.ensures ∙ (c.args.graph.now.identifiers.ok.0 ∙ runs.sound.fits.identifiers) in
    header (plan-counts g.E.Engine.meaning c.args.graph.now l c.args.packing.now literals plan runs c.args.kept.now c.requires.kept (λ s i. IsHeaderFault s i c.args.kept.now c.in-Some.at)
    (counts-as (λ s i. IsHeaderFault s i c.args.kept.now c.in-Some.at) l.singles l.identifiers c.singles.result c.len.result (sym c.singles.ensures) (sym count) c.in-Some.ensures.first))

pub returns-in-Some-clause-none : goal.returns-in-Some-clause-none
returns-in-Some-clause-none g c = (
  λ e. absurd (let f : true ≡ false = e in cc),
  none-found g.E.Engine.meaning c.args.graph.now c.args.layout.now c.args.packing.now c.args.kept.now (Some c.in-Some.at) c.requires.runs (each-by c.args.kept.now (λ k. (c.type_inv.kept k).fits))
      (returns-in-Some-clause-first g c),
)

pub returns-in-None-clause-first : goal.returns-in-None-clause-first
returns-in-None-clause-first g c =
    some-map c.part_fault.result
    (λ place fault literals plan runs.
    let l = c.args.layout.now in
    let count = c.len.ensures ∙ (c.args.graph.now.identifiers.ok.0 ∙ runs.sound.fits.identifiers) in
    let own = counts-as (λ s i. IsHeader s i c.args.kept.now) l.singles l.identifiers c.singles.result c.len.result (sym c.singles.ensures) (sym count) (c.in-None.ensures.none.0 refl) in
    part (plan-counts g.E.Engine.meaning c.args.graph.now l c.args.packing.now literals plan runs c.args.kept.now c.requires.kept (λ s i. IsHeader s i c.args.kept.now) own) (fault literals plan runs))
    c.part_fault.ensures.first

pub returns-in-None-clause-none : goal.returns-in-None-clause-none
returns-in-None-clause-none g c = (
  λ none.
      let some = c.requires.runs in
      let l = c.args.layout.now in
      let packing = c.args.packing.now in
      let count = c.len.ensures ∙ (c.args.graph.now.identifiers.ok.0 ∙ some.is.sound.fits.identifiers) in
      let own = counts-as (λ s i. IsHeader s i c.args.kept.now) l.singles l.identifiers c.singles.result c.len.result (sym c.singles.ensures) (sym count) (c.in-None.ensures.none.0 refl) in
      let (numbers, wells) = c.part_fault.ensures.none none in
      well-packed g.E.Engine.meaning c.args.graph.now l packing some.literals some.plan some.is c.args.kept.now c.requires.kept own numbers
      (subst (λ n. AreFieldsWellBefore g.E.Engine.meaning c.args.graph.now (unpacked packing c.args.kept.now) n l (unpacked_size packing + 1)) c.offset_in.ensures wells),
  none-found g.E.Engine.meaning c.args.graph.now c.args.layout.now c.args.packing.now c.args.kept.now c.part_fault.result c.requires.runs (each-by c.args.kept.now (λ k. (c.type_inv.kept k).fits))
      (returns-in-None-clause-first g c),
)
