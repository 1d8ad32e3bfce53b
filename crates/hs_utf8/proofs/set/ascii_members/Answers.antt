use Rattle.std.proofs.Common.{◌∙◌, arith}
use Rattle.std.proofs.lemmas.Bool.Decides.{nat_tests}
use Rattle.hs_base.proofs.LiteralLemmas.{members-where}
use Rattle.regex_class.specs.Ranges.{in_ranges}
use Rattle.hs_utf8.specs.Lowered.{is_ascii_member}
use Rattle.hs_utf8.proofs.ByteLemmas.{no_member}
use Rattle.hs_utf8.proofs.SetLemmas.{ascii-test}
use Rattle.hs_utf8.proofs.set.ascii_members.Goals as goal

pub loop-byte-init : goal.loop-byte-init
loop-byte-init c = λ b below. grind (arith, nat_tests, no_member b below)

pub returns : goal.returns
returns c =
    let rs = c.args.class.now.ranges.items in
    members-where c.loop-byte.set (is_ascii_member rs)
    (λ b below. c.loop-byte.invariant b below ∙ ascii-test b c.loop-byte.byte (in_ranges rs b) (omega arith))
