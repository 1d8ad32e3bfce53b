use Rattle.hs_parse.proofs.RangeLemmas.{map_ok, range_folded, range_plain}
use Rattle.hs_parse.proofs.point_set.range_points.Goals as goal

pub returns-then-caseless : goal.returns-then-caseless
returns-then-caseless c =
    map_ok c.folds.result (λ xs. range_folded c.args.caseless c.args.first c.args.last xs.items c.if-caseless.true) c.folds.ensures

pub returns : goal.returns
returns c =
    map_ok c.from_slice.result (λ xs. range_plain c.args.caseless c.args.first c.args.last xs.items c.if-caseless.false)
    c.from_slice.ensures.items
