use Rattle.std.proofs.Common.{◌≡◌, ◌+◌, ◌-◌, ◌/◌, ◌<◌, ℕ, slice_get, sym, ap, subst, ◌∙◌, inl, inr, arith}
use Rattle.std.specs.Prelude.{slice_index}
use Rattle.std.proofs.lemmas.Bool.{cases_lt}
use Rattle.std.proofs.lemmas.Option.{same_Some}
use Rattle.hs_nodes.specs.declared.graph.FieldCopy.{FieldCopy}
use Rattle.hs_scan.proofs.MadeLemmas.{ends-rise}
use Rattle.hs_scan.proofs.copying.copy_around.Goals as goal
use Rattle.hs_scan.proofs.copying.copy_around.Goals.{then-place, else-place}

pub place-requires : goal.place-requires
place-requires g c = record { there = (c.requires.fits.copies _ c.copy_at.result c.copy_at.ensures).within }

pub loop-low-preserved : goal.loop-low-preserved
loop-low-preserved g c =
    let graph = c.args.graph.now in
    let l = c.args.layout.now in
    let inv = c.loop-low.invariant in
    let test : c.loop-low.low < c.loop-low.high = omega (arith, c.loop-low-test.true) in
    let half : (c.loop-low.high - c.loop-low.low) / 2 < c.loop-low.high - c.loop-low.low = omega (arith, test) in
    let near : c.min.result < c.loop-low.high - c.loop-low.low = grind (arith, c.min.ensures, half) in
    let middle : ℕ = c.loop-low.low + c.min.result in
    elim c.if-place.branch [
      | then-place w ↦ record {
        first = omega (arith, w.low-is, inv.first);
        order = omega (arith, w.low-is, w.high-is, near);
        within = omega (arith, w.high-is, near, inv.within);
        before = λ j copy low high at. inv.before j copy low (omega (arith, high, w.low-is)) at;
        own = λ copy at.
            let same : c.copy_at.result ≡ copy = same_Some c.copy_at.result copy (sym c.copy_at.ensures ∙ (ap (λ n. slice_get graph.copies.items n) (sym w.high-is) ∙ at)) in
            subst (λ (x : FieldCopy). c.args.place < slice_index l.starts (x.field + 1)) same (omega (arith, w.if-place.true, c.place.ensures.at));
      }
      | else-place w ↦ record {
        first = omega (arith, w.low-is, inv.first);
        order = omega (arith, w.low-is, w.high-is, near);
        within = omega (arith, w.high-is, inv.within);
        before = λ j copy low high at. elim (cases_lt j c.loop-low.low) [
          | inl less ↦ inv.before j copy low less at
          | inr past ↦
              let rise = ends-rise graph l c.requires.fits j middle copy c.copy_at.result (omega (arith, high, w.low-is)) at c.copy_at.ensures in
              omega (arith, rise, w.if-place.false, c.place.ensures.at)
        ];
        own = λ copy at. inv.own copy (ap (λ n. slice_get graph.copies.items n) (sym w.high-is) ∙ at);
      }
    ]
