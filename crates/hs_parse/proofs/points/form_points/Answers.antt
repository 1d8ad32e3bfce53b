use Rattle.hs_parse.proofs.RangeLemmas.{map_ok}
use Rattle.hs_parse.proofs.PointLemmas.{form_ranges}
use Rattle.hs_parse.proofs.points.form_points.Goals as goal

pub returns : goal.returns
returns c =
    map_ok c.point_set.result (λ r. form_ranges c.args.test _ _ r.items c.new-all.ensures.items c.in_ok-push_points.ensures)
    c.point_set.ensures
