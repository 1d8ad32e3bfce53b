use Rattle.std.proofs.Common.{◌+◌, ◌*◌, cond, ltb, get_or, arith}
use Rattle.hs_fdr.proofs.LaneLemmas.{lanes_as, lanes_row}
use Rattle.hs_fdr.proofs.tables.Tables.masks_of.Goals as goal

pub returns : goal.returns
returns c =
    let rows = c.deref.result.now in
    let v = c.args.v in
    lanes_as _ (λ k. cond (ltb k 8) (get_or rows (8 * v + k) 0) 0) _ (lanes_row rows (8 * v) (omega arith))
    (λ k _ i. cond (ltb k 8) (get_or (c.deref.ensures.value i) (8 * v + k) 0) 0)
