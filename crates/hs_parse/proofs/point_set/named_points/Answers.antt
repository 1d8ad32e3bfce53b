use Rattle.std.proofs.Common.{◌∙◌, arith}
use Rattle.hs_parse.proofs.RangeLemmas.{map_ok, named_first, named_all}
use Rattle.hs_parse.proofs.point_set.named_points.Goals as goal

pub loop-byte-init : goal.loop-byte-init
loop-byte-init c = named_first c.args.class _ (c.in_ok-all.ensures.items ∙ c.ranges_beyond.ensures)

pub returns : goal.returns
returns c =
    map_ok c.new.result
    (λ r. named_all c.args.class c.loop-byte.all.items c.loop-byte.byte r.ranges.items c.loop-byte.invariant (omega arith))
    c.new.ensures
