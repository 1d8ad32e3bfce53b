use Rattle.hs_parse.proofs.RangeLemmas.{all_points, no_newline}
use Rattle.hs_parse.proofs.point_set.any_points.Goals as goal

pub returns-then-dotall : goal.returns-then-dotall
returns-then-dotall c = all_points c.args.dotall c.if-dotall.true

pub returns-else-dotall : goal.returns-else-dotall
returns-else-dotall c = no_newline c.args.dotall c.if-dotall.false
