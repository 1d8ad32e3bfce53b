use Rattle.std.proofs.Common.{◌≤◌, arith}
use Rattle.hs_scan.proofs.PastLemmas.{joined, pushed}
use Rattle.hs_scan.proofs.past.push_past.Goals as goal

pub returns : goal.returns
returns c =
    let n = c.min-count.result in
    let small : n ≤ 64 = omega (arith, c.min-count.ensures) in
    pushed c.args.past.now c.args.bytes.now _ n c.requires c.min-count.ensures
    (joined c.args.past.now c.shift_past.new.past c.copy_from_slice.new.self c.args.bytes.now n c.requires c.shift_past.ensures.len small c.shift_past.ensures.front c.copy_from_slice.ensures.after)
