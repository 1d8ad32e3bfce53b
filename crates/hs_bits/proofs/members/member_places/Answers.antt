use Rattle.std.proofs.Common.{arith}
use Rattle.hs_base.specs.ByteSets.{has}
use Rattle.hs_bits.proofs.MemberLemmas.{none-placed}
use Rattle.hs_bits.proofs.members.member_places.Goals as goal

pub loop-at-init : goal.loop-at-init
loop-at-init c = (omega arith, none-placed (has c.args.set.now) c.args.bytes.now)
