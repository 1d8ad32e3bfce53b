use Rattle.std.proofs.Common.{◌≡◌, ◌-◌, ◌++◌, map, subst, arith}
use Rattle.std.specs.List.{range_with_len}
use Rattle.hs_fdr.specs.Masks.{mask_of, width_of}
use Rattle.hs_fdr.specs.Blocks.{term, or_all, mask_at}
use Rattle.hs_fdr.proofs.plain.mask_at_place.Goals as goal

pub returns : goal.returns
unfolding mask_at
returns c =
    let tables = c.args.tables.now in
    let said = term (mask_of tables) (width_of tables) (c.args.before.now ++ c.args.block.now) c.args.next c.args.place in
    let eight : c.loop-later.later ≡ 8 = omega arith in
    subst (λ n. c.loop-later.mask ≡ or_all (map said (range_with_len (8 - n) n))) eight c.loop-later.invariant
