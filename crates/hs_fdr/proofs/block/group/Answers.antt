use Rattle.std.proofs.Common.{◌≡◌, suc, ◌+◌, ◌-◌, subst, arith}
use Rattle.hs_fdr.specs.Lanes.{HasLanes}
use Rattle.hs_fdr.specs.Adding.{added_by, rows_of}
use Rattle.hs_fdr.proofs.BlockLemmas.{group_step}
use Rattle.hs_fdr.proofs.block.group.Goals as goal

pub loop-back-preserved : goal.loop-back-preserved
loop-back-preserved c =
    let rows = rows_of c.args.tables.now c.args.bytes.now in
    let back = c.loop-back.back in
    let p = c.args.at + (8 - 1 - back) in
    let from : c.args.at + (8 - back) ≡ p + 1 = omega arith in
    let to : p ≡ c.args.at + (8 - (back + 1)) = omega arith in
    let more : suc back ≡ back + 1 = omega arith in
    let done = group_step rows p back c.loop-back.sum c.later.result c.row_at.result c.either-sum.result
    (subst (λ n. HasLanes c.loop-back.sum (λ k. added_by rows n back k)) from c.loop-back.invariant) c.later.ensures c.row_at.ensures c.either-sum.ensures in
    subst (λ n. HasLanes c.either-sum.result (λ k. added_by rows n (back + 1) k)) to
    (subst (λ n. HasLanes c.either-sum.result (λ k. added_by rows p n k)) more done)

pub returns : goal.returns
returns c =
    let rows = rows_of c.args.tables.now c.args.bytes.now in
    let eight : c.loop-back.back ≡ 8 = omega arith in
    let start : c.args.at + (8 - 8) ≡ c.args.at = omega arith in
    subst (λ n. HasLanes c.loop-back.sum (λ k. added_by rows n 8 k)) start
    (subst (λ n. HasLanes c.loop-back.sum (λ k. added_by rows (c.args.at + (8 - n)) n k)) eight c.loop-back.invariant)
