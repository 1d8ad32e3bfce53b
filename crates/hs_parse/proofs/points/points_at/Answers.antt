use Rattle.hs_parse.proofs.RangeLemmas.{map_ok}
use Rattle.hs_parse.proofs.PointLemmas.{form_set, class_set, point_within}
use Rattle.hs_parse.proofs.points.points_at.Goals as goal

pub class_points-requires-clause-within : goal.class_points-requires-clause-within
class_points-requires-clause-within c = point_within _ c.args.start c.requires.within c.requires.there

pub returns-in-Some : goal.returns-in-Some
returns-in-Some c =
    map_ok c.form_points.result (λ r. form_set _ c.args.start c.in-Some.test _ r.items c.test_at.ensures c.in-Some.is) c.form_points.ensures

pub returns-in-None : goal.returns-in-None
returns-in-None c =
    map_ok c.class_points.result (λ r. class_set _ c.args.start _ r.items c.requires.there c.test_at.ensures c.in-None.is)
    c.class_points.ensures
