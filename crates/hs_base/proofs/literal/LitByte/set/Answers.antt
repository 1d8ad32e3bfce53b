use Rattle.std.proofs.Common.{◌||◌, ◌∙◌, ◌-◌, ◌==◌, ap, sym}
use Rattle.hs_base.specs.Literals.{takes}
use Rattle.hs_base.specs.LiteralView.{literal_byte}
use Rattle.hs_base.proofs.LiteralLemmas.{members-where, either_case, small-above}
use Rattle.hs_base.proofs.ByteSetLemmas.{or-false}
use Rattle.hs_base.proofs.literal.LitByte.set.Goals as goal

pub returns-then-self : goal.returns-then-self
returns-then-self c =
    members-where c.insert.new.self (takes (literal_byte c.args.self.now)) (λ b h.
    c.insert.ensures b h
    ∙ ap (λ one. (b == (c.args.self.now.byte - 32)) || one) (c.of-set.ensures b h)
    ∙ (rw c.if-self.true (either_case b c.args.self.now.byte (small-above c.args.self.now.byte (c.args.self.now.small c.if-self.true)))))

pub returns-else-self : goal.returns-else-self
returns-else-self c =
    members-where c.of-set.result (takes (literal_byte c.args.self.now)) (λ b h.
    c.of-set.ensures b h ∙ rw c.if-self.false (sym (or-false (b == c.args.self.now.byte))))
