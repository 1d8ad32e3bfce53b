use Rattle.hs_parse.specs.Points.{passes_point}
use Rattle.hs_parse.proofs.RangeLemmas.{pushed}
use Rattle.hs_parse.proofs.point_set.push_points.Goals as goal

pub returns : goal.returns
returns c =
    pushed (passes_point c.args.test) c.extend_from_slice.result _ c.in_ok-passing.passing.items _ _ c.in_ok-passing.ensures
    c.deref.ensures.value c.extend_from_slice.ensures.items
