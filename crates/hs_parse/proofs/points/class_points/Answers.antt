use Rattle.std.proofs.Common.{arith}
use Rattle.hs_parse.proofs.ClassLemmas.{start_within}
use Rattle.hs_parse.proofs.RangeLemmas.{map_ok}
use Rattle.hs_parse.proofs.PointLemmas.{class_ranges}
use Rattle.hs_parse.proofs.points.class_points.Goals as goal

pub item_points-requires-clause-within : goal.item_points-requires-clause-within
item_points-requires-clause-within c =
    let begun = start_within c.args.text.now c.args.at c.requires.within in omega (arith, begun.1, c.items_start.ensures)

pub returns : goal.returns
returns c =
    map_ok c.point_set.result
    (λ r. class_ranges _ _ _ _ _ _ r.items c.items_start.ensures c.is_negated.ensures c.in_ok-all.ensures) c.point_set.ensures
