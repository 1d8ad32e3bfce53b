use Rattle.std.proofs.Common.{◌+◌, ◌≤◌, length, arith}
use Rattle.hs_nodes.specs.Living.{is_live}
use Rattle.hs_nodes.proofs.LivingLemmas.{nowhere-more, zero-dead}
use Rattle.hs_nodes.proofs.living.pass_spans.Goals as goal

pub loop-at-preserved : goal.loop-at-preserved
loop-at-preserved c =
    let bytes = c.args.bytes.now in
    let at = c.loop-at.at in
    let inv = c.loop-at.invariant in
    let room : at + 32 ≤ length bytes = omega (arith, c.loop-at-test.true, inv.high) in
    record {
      low = omega (arith, inv.low);
      high = room;
      zero = nowhere-more (is_live bytes) c.args.from at (at + 32) inv.zero (λ i low high. zero-dead bytes i (c.is_zero_span.ensures.0 c.if-is_zero_span.true i low high));
    }
