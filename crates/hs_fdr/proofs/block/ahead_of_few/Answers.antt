use Rattle.std.proofs.Common.{◌≡◌, ◌++◌, get_or, sym, subst, arith}
use Rattle.std.proofs.lemmas.List.{get_or_append_left}
use Rattle.hs_fdr.specs.Masks.{width_of, IsRow}
use Rattle.hs_fdr.specs.Blocks.{super_character}
use Rattle.hs_fdr.proofs.BlockLemmas.{ahead_step}
use Rattle.hs_fdr.proofs.block.ahead_of_few.Goals as goal

pub loop-place-preserved : goal.loop-place-preserved
loop-place-preserved c =
    let tables = c.args.tables.now in
    let before = c.args.before.now in
    let block = c.args.block.now in
    let p = c.loop-place.place in
    let row = c.row.result in
    let byte : get_or before p 0 ≡ get_or (before ++ block) p 0 = sym (get_or_append_left before block 0 p (omega arith)) in
    ahead_step tables before block c.args.next p c.loop-place.ahead row c.either.result c.one_on-ahead.result c.loop-place.invariant
    (subst (λ x. IsRow tables (super_character (width_of tables) (get_or (before ++ block) p 0) x) row) c.byte_at-after.ensures
    (subst (λ x. IsRow tables (super_character (width_of tables) x c.byte_at-after.result) row) byte c.row.ensures))
    c.either.ensures c.one_on-ahead.ensures
