use Rattle.std.proofs.Common.{◌≡◌, ◌<◌, refl, subst, sym, ◌∙◌, arith}
use Rattle.std.specs.Prelude.{slice_index}
use Rattle.std.proofs.lemmas.Option.{same_Some, slice_get_within}
use Rattle.hs_nodes.specs.declared.graph.FieldCopy.{FieldCopy}
use Rattle.hs_scan.specs.Copying.{behind_byte, behind_field}
use Rattle.hs_scan.proofs.MadeLemmas.{made-one, makes-one}
use Rattle.hs_scan.proofs.copying.copy_into.Goals as goal

pub returns-then-n-len-clause-goes_on : goal.returns-then-n-len-clause-goes_on
returns-then-n-len-clause-goes_on g c =
    behind_byte (λ copy at. absurd (let w = slice_get_within c.args.graph.now.copies.items c.args.n copy at in omega (arith, w, c.if-n-len.true))) refl

pub place-requires : goal.place-requires
place-requires g c = record { there = let w = (c.requires.fits.copies c.args.n c.copy_at-copy.result c.copy_at-copy.ensures).within in omega (arith, w) }

pub returns-then-place-clause-goes_on : goal.returns-then-place-clause-goes_on
returns-then-place-clause-goes_on g c =
    behind_byte
    (λ copy at.
    let own : c.copy_at-copy.result ≡ copy = same_Some c.copy_at-copy.result copy (sym c.copy_at-copy.ensures ∙ at) in
    subst (λ (x : FieldCopy). c.args.place < slice_index c.args.layout.now.starts x.field) own (omega (arith, c.if-place.true, c.place.ensures.at)))
    refl

pub returns-clause-makes : goal.returns-clause-makes
returns-clause-makes g c =
    makes-one c.args.graph.now c.args.layout.now c.requires.fits c.args.n c.copy_at-copy.result c.args.region.now c.copy_field.new.region c.copy_at-copy.ensures c.requires.sized c.copy_field.ensures

pub returns-clause-goes_on : goal.returns-clause-goes_on
returns-clause-goes_on g c =
    behind_field c.copy_at-copy.result c.copy_at-copy.ensures (omega (arith, c.if-place.false, c.place.ensures.at))
    (made-one c.args.graph.now c.args.layout.now c.requires.fits c.args.n c.copy_at-copy.result c.args.region.now c.copy_field.new.region c.copy_at-copy.ensures c.requires.sized c.copy_field.ensures)
    c.place-2.ensures.at
