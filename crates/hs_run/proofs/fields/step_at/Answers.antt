use Rattle.std.proofs.Common.{◌≡◌, ◌+◌, length, sym, ap, subst, ◌∙◌, arith}
use Rattle.std.proofs.lemmas.Option.{same_Some}
use Rattle.hs_layout.specs.Layouts.{field_bytes}
use Rattle.hs_run.specs.Pieces.{GoesOn, IsPart, IsSound, KeepsOn}
use Rattle.hs_run.proofs.LayoutLemmas.{field-put, field-wide, part-same, starts-count, written-is}
use Rattle.hs_run.proofs.fields.step_at.Goals as goal

pub place-requires : goal.place-requires
place-requires g c = record { there = omega (arith, c.requires.there, starts-count c.args.program.now c.args.layout.now c.requires.fits) }

pub place-requires-2 : goal.place-requires-2
place-requires-2 g c = record { there = omega (arith, c.requires.there, starts-count c.args.program.now c.args.layout.now c.requires.fits) }

pub step_role-requires-clause-sound : goal.step_role-requires-clause-sound
step_role-requires-clause-sound g c =
    let same = part-same c.args.program.now c.args.layout.now c.requires.fits c.args.region.now c.args.k c.place.result c.place-2.result c.requires.there c.requires.sized c.place.ensures.at c.place-2.ensures.at in
    let wide = ap length same ∙ field-wide c.args.program.now c.args.layout.now c.requires.fits c.args.region.now c.args.k c.role_at.result.now c.requires.sized c.role_at.ensures.is in
    subst (IsSound c.args.program.now c.role_at.result.now) (sym wide) (c.requires.runs.roles c.args.k c.role_at.result.now c.role_at.ensures.is)

pub step_role-requires-clause-well : goal.step_role-requires-clause-well
step_role-requires-clause-well g c =
    let same = part-same c.args.program.now c.args.layout.now c.requires.fits c.args.region.now c.args.k c.place.result c.place-2.result c.requires.there c.requires.sized c.place.ensures.at c.place-2.ensures.at in
    subst (λ bytes. IsPart c.args.program.now c.role_at.result.now bytes c.args.spot.now.at) (sym same)
    (c.requires.part c.role_at.result.now c.role_at.ensures.is)

pub returns-clause-written : goal.returns-clause-written
returns-clause-written g c =
    let put = field-put c.args.program.now c.args.layout.now c.requires.fits c.args.region.now c.args.k c.place.result c.place-2.result c.requires.there c.requires.sized c.place.ensures.at c.place-2.ensures.at c.step_role.new.part c.step_role.ensures.len in
    written-is c.args.layout.now c.args.region.now c.step_role.new.part _ c.args.k put

pub returns-clause-part : goal.returns-clause-part
returns-clause-part g c r role =
    let put = field-put c.args.program.now c.args.layout.now c.requires.fits c.args.region.now c.args.k c.place.result c.place-2.result c.requires.there c.requires.sized c.place.ensures.at c.place-2.ensures.at c.step_role.new.part c.step_role.ensures.len in
    subst (λ bytes. IsPart c.args.program.now r bytes (c.args.spot.now.at + 1)) (sym put.here)
    (subst (λ q. IsPart c.args.program.now q c.step_role.new.part (c.args.spot.now.at + 1)) (same_Some c.role_at.result.now r (sym c.role_at.ensures.is ∙ role))
    c.step_role.ensures.well)

pub returns-clause-leaves : goal.returns-clause-leaves
returns-clause-leaves g c r role =
    let same = part-same c.args.program.now c.args.layout.now c.requires.fits c.args.region.now c.args.k c.place.result c.place-2.result c.requires.there c.requires.sized c.place.ensures.at c.place-2.ensures.at in
    subst (λ q. GoesOn c.args.program.now q (field_bytes c.args.layout.now c.args.region.now c.args.k) c.args.spot.now c.args.now c.step_role.result)
    (same_Some c.role_at.result.now r (sym c.role_at.ensures.is ∙ role))
    (subst (λ bytes. GoesOn c.args.program.now c.role_at.result.now bytes c.args.spot.now c.args.now c.step_role.result) same c.step_role.ensures.leaves)

pub returns-clause-keeps : goal.returns-clause-keeps
returns-clause-keeps g c r role =
    let same = part-same c.args.program.now c.args.layout.now c.requires.fits c.args.region.now c.args.k c.place.result c.place-2.result c.requires.there c.requires.sized c.place.ensures.at c.place-2.ensures.at in
    let put = field-put c.args.program.now c.args.layout.now c.requires.fits c.args.region.now c.args.k c.place.result c.place-2.result c.requires.there c.requires.sized c.place.ensures.at c.place-2.ensures.at c.step_role.new.part c.step_role.ensures.len in
    let one : c.role_at.result.now ≡ r = same_Some c.role_at.result.now r (sym c.role_at.ensures.is ∙ role) in
    subst (λ bytes. KeepsOn c.args.program.now r (field_bytes c.args.layout.now c.args.region.now c.args.k) bytes c.args.spot.now c.args.byte c.args.now) (sym put.here)
    (subst (λ q. KeepsOn c.args.program.now q (field_bytes c.args.layout.now c.args.region.now c.args.k) c.step_role.new.part c.args.spot.now c.args.byte c.args.now) one
    (subst (λ bytes. KeepsOn c.args.program.now c.role_at.result.now bytes c.step_role.new.part c.args.spot.now c.args.byte c.args.now) same c.step_role.ensures.keeps))

pub returns-clause-ticks : goal.returns-clause-ticks
returns-clause-ticks g c = c.step_role.ensures.ticks
