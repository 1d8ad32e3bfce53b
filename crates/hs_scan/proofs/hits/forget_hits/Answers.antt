use Rattle.std.proofs.Common.{◌+◌, refl, arith}
use Rattle.hs_scan.proofs.HitLemmas.{forgot-all, forgot-more, forgot-none, forgot-passed}
use Rattle.hs_scan.proofs.hits.forget_hits.Goals as goal

pub loop-number-init : goal.loop-number-init
loop-number-init c = forgot-none c.args.rows.now c.args.hits.now c.requires.count c.requires.others

pub loop-number-preserved : goal.loop-number-preserved
loop-number-preserved c =
    let rows = c.args.rows.now in
    let number = c.in-Some.number in
    let next = c.in-Some.ensures.next in
    forgot-more rows c.loop-number.hits number (number + 1) refl next.high (forgot-passed rows c.loop-number.hits c.loop-number.from number next.low (omega (arith, next.high)) next.least c.loop-number.invariant)

pub returns-clause-none : goal.returns-clause-none
returns-clause-none c =
    let rows = c.args.rows.now in
    forgot-all rows c.loop-number.hits (forgot-passed rows c.loop-number.hits c.loop-number.from rows.count c.loop-number.invariant.within (omega arith) c.in_default.ensures.next c.loop-number.invariant)
