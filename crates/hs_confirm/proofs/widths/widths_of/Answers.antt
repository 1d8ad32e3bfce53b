use Rattle.std.proofs.Common.{◌∙◌, length, map, sym, ap, arith, length-set}
use Rattle.std.proofs.lemmas.List.{get_or-map}
use Rattle.hs_confirm.proofs.FilingLemmas.{short-step}
use Rattle.hs_confirm.proofs.widths.widths_of.Goals as goal

pub loop-number-preserved : goal.loop-number-preserved
loop-number-preserved c =
    let literals = c.args.literals.now in
    let lens = map (λ literal. length literal.items) literals in
    let literal = c.index-literals-number.result in
    let read = get_or-map (λ l. length l.items) literals c.loop-number.number literal 0 (omega arith) ∙ ap (λ l. length l.items) (sym c.index-literals-number.is) in
    let same = ap length c.as_slice.ensures.value in
    record {
      eight = length-set c.loop-number.widths c.from-bucket.result c.narrowed.result ∙ c.loop-number.invariant.eight;
      short = short-step c.loop-number.widths lens c.args.buckets.now c.loop-number.number c.from-bucket.result c.narrowed.result c.from-bucket.ensures (omega (arith, c.from-bucket.ensures, c.loop-number.invariant.eight, c.requires.few c.loop-number.number (omega arith))) c.narrowed.ensures.width (omega (arith, read, same, c.narrowed.ensures.short)) c.loop-number.invariant.short;
    }
