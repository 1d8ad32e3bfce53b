use Rattle.std.proofs.Common.{arith}
use Rattle.std.specs.Prelude.{◌&&◌, nat_le}
use Rattle.std.proofs.lemmas.Bool.Decides.{nat_tests}
use Rattle.hs_base.proofs.LiteralLemmas.{members-where}
use Rattle.hs_utf8.proofs.ByteLemmas.{no_member}
use Rattle.hs_utf8.proofs.byte_range.byte_range.Goals as goal

pub loop-byte-init : goal.loop-byte-init
loop-byte-init c = λ b below. grind (arith, nat_tests, no_member b below)

pub returns : goal.returns
returns c =
    members-where c.loop-byte.set (λ b. nat_le c.args.first b && nat_le b c.args.last)
    (λ b below. grind (arith, nat_tests, c.loop-byte.invariant b below))

pub returns-2 : goal.returns-2
returns-2 c =
    members-where c.insert.new.self (λ b. nat_le c.args.first b && nat_le b c.args.last)
    (λ b below. grind (arith, nat_tests, c.insert.ensures b below, c.loop-byte.invariant b below))
