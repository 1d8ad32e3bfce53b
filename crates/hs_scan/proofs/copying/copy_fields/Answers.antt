use Rattle.std.proofs.Common.{◌≡◌, length, ◌∙◌, arith}
use Rattle.hs_layout.specs.Layouts.{laid_size}
use Rattle.hs_scan.proofs.MadeLemmas.{made-end, made-first, made-on}
use Rattle.hs_scan.proofs.copying.copy_fields.Goals as goal

pub loop-place-init : goal.loop-place-init
loop-place-init g c = record {
  within = c.place.ensures.within;
  spot = record {
    few_nodes = omega arith;
    few_copies = omega arith;
    nodes = λ j node low. absurd (omega (arith, low));
    copies = λ j copy low. absurd (omega (arith, low));
  };
  made = made-first c.args.graph.now c.args.layout.now c.requires.fits c.args.region.now c.place.result c.place.ensures.at;
}

pub loop-place-preserved : goal.loop-place-preserved
loop-place-preserved g c =
    let l = c.args.layout.now in
    let inv = c.loop-place.invariant in
    let own = c.copy_byte.ensures in
    let some = c.in-Some.ensures in
    let size : length c.loop-place.region ≡ laid_size l = inv.made.makes.len ∙ c.requires.sized in
    record {
      within = omega (arith, own.within, size);
      spot = own.spot;
      made = made-on c.args.graph.now l c.requires.fits c.args.region.now c.loop-place.region c.copy_byte.new.region c.loop-place.spot.from c.in-Some.place c.copy_byte.new.spot.from c.requires.sized inv.made some.least own.makes own.passed;
    }

pub returns : goal.returns
returns g c = made-end c.args.graph.now c.args.layout.now c.requires.fits c.args.region.now c.loop-place.region c.loop-place.spot.from c.requires.sized c.loop-place.invariant.made c.in_default.ensures
