use Rattle.std.proofs.Common.{◌+◌, ◌++◌, get_or, arith}
use Rattle.hs_nodes.proofs.look_back.passed_over.Goals as goal

pub returns-then-contains-clause-asleep : goal.returns-then-contains-clause-asleep
returns-then-contains-clause-asleep g c region i starts low =
    let (small, apart) = c.loop-place.invariant (c.args.begin + i) (omega arith) (omega (arith, low)) in
    c.wakers-wakers.ensures region (get_or (c.args.chunk.now.past.now ++ c.args.chunk.now.bytes.now) (c.args.begin + i) 0) starts small apart

pub returns-clause-asleep : goal.returns-clause-asleep
returns-clause-asleep g c region i starts low =
    let (small, apart) = c.loop-place.invariant (c.args.begin + i) (omega arith) (omega (arith, low, c.loop-place-test.false)) in
    c.wakers-wakers.ensures region (get_or (c.args.chunk.now.past.now ++ c.args.chunk.now.bytes.now) (c.args.begin + i) 0) starts small apart
