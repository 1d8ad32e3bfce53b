use Rattle.std.proofs.Common.{◌-◌, ◌^◌, min, ap, ◌∙◌}
use Rattle.std.proofs.lemmas.Iterator.Consumers.{YieldsList-from_first, YieldsList-end}
use Rattle.hs_literals.specs.Left.{scan_left}
use Rattle.hs_bench.proofs.count_ends.Goals as goal

pub returns : goal.returns
returns c =
    let start = ap scan_left c.into_iter-end-iterator.ensures.into_iter_gives in
    let end = YieldsList-end (YieldsList-from_first (λ x. x) scan_left _ start) c.loop-end.yielded c.loop-end.end-iterator c.loop-end.yielded_by c.next.result c.next.new.self c.in-None.is c.next.ensures.steps in
    c.loop-end.invariant ∙ ap (λ n. min n (2 ^ 64 - 1)) end.1
