use Rattle.std.proofs.Common.{◌+◌, ◌≤◌, length, arith}
use Rattle.hs_nodes.specs.Living.{is_live}
use Rattle.hs_nodes.proofs.LivingLemmas.{nowhere-more, word-dead}
use Rattle.hs_nodes.proofs.living.pass_zeros.Goals as goal

pub loop-at-preserved : goal.loop-at-preserved
loop-at-preserved c =
    let bytes = c.args.bytes.now in
    let at = c.loop-at.at in
    let inv = c.loop-at.invariant in
    let room : at + 8 ≤ length bytes = omega (arith, c.loop-at-test.true, inv.high) in
    record {
      low = omega (arith, inv.low);
      high = room;
      zero = nowhere-more (is_live bytes) c.args.from at (at + 8) inv.zero (word-dead bytes at c.word_at.result (λ i. (c.type_inv.bytes i).fits) room c.word_at.ensures.number c.if-word_at-eq0.true);
    }
