use Rattle.std.proofs.Common.{arith}
use Rattle.hs_base.specs.ByteSets.{has}
use Rattle.hs_bits.proofs.MemberLemmas.{one-place}
use Rattle.hs_bits.proofs.members.with_rest.Goals as goal

pub loop-at-preserved : goal.loop-at-preserved
loop-at-preserved c =
    one-place (has c.args.set.now) c.args.bytes.now c.loop-at.at c.loop-at.places c.contains.result (omega arith) c.contains.ensures c.loop-at.invariant
