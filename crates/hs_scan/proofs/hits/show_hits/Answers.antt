use Rattle.std.proofs.Common.{◌+◌, refl, arith}
use Rattle.hs_scan.proofs.HitLemmas.{all-more, all-none, all-passed}
use Rattle.hs_scan.proofs.hits.show_hits.Goals as goal

pub loop-number-init : goal.loop-number-init
loop-number-init c = all-none c.args.rows.now c.args.hits.now c.requires.count c.requires.none

pub loop-number-preserved : goal.loop-number-preserved
loop-number-preserved c =
    let rows = c.args.rows.now in
    let number = c.in-Some.number in
    let next = c.in-Some.ensures.next in
    all-more rows c.loop-number.hits number (number + 1) c.chunk_hits.result refl next.high next.is c.chunk_hits.ensures
    (all-passed rows c.loop-number.hits c.loop-number.from number c.next_hit.ensures.marked next.low (omega (arith, next.high)) next.least c.loop-number.invariant)

pub returns-clause-shown : goal.returns-clause-shown
returns-clause-shown c k below =
    let rows = c.args.rows.now in
    (all-passed rows c.loop-number.hits c.loop-number.from rows.count c.next_hit.ensures.marked c.loop-number.invariant.within (omega arith) c.in_default.ensures.next c.loop-number.invariant).shown k below

pub returns-clause-others : goal.returns-clause-others
returns-clause-others c k unset = c.loop-number.invariant.others k unset
