use Rattle.std.proofs.Common.{◌&&◌, ◌||◌, eqb, sym, ap, ◌∙◌}
use Rattle.hs_limex.specs.SingleWords.{is_set}
use Rattle.hs_limex.proofs.SingleLemmas.{set-bit, kept-bit}
use Rattle.hs_limex.proofs.single.with_bit_if.Goals as goal

pub returns-then-wanted : goal.returns-then-wanted
returns-then-wanted c k =
    set-bit c.args.word c.args.bit k c.requires ∙ sym (ap (λ b. (eqb k c.args.bit && b) || is_set c.args.word k) c.if-wanted.true)

pub returns-else-wanted : goal.returns-else-wanted
returns-else-wanted c k =
    kept-bit c.args.word c.args.bit k ∙ sym (ap (λ b. (eqb k c.args.bit && b) || is_set c.args.word k) c.if-wanted.false)
