use Rattle.std.proofs.Common.{◌∙◌, sym, ap, length, arith, rules}
use Rattle.hs_base.proofs.ByteSetLemmas.{members_from-in, members_from-out, members_from-end}
use Rattle.hs_base.proofs.members.MembersIterator.next.Goals as goal

pub returns-then-contains-clause-steps : goal.returns-then-contains-clause-steps
returns-then-contains-clause-steps c =
    sym c.loop-self.invariant ∙ members_from-in c.loop-self.self.set c.loop-self.self.next (omega arith) (sym c.contains.ensures ∙ c.if-contains.true)

pub returns-then-contains-clause-goes : goal.returns-then-contains-clause-goes
returns-then-contains-clause-goes c =
    let e = sym c.loop-self.invariant ∙ members_from-in c.loop-self.self.set c.loop-self.self.next (omega arith) (sym c.contains.ensures ∙ c.if-contains.true) in
    let fewer = ap length e in
    search rules

pub loop-self-preserved : goal.loop-self-preserved
loop-self-preserved c =
    sym (members_from-out c.loop-self.self.set c.loop-self.self.next (omega arith) (sym c.contains.ensures ∙ c.if-contains.false)) ∙ c.loop-self.invariant

pub returns-clause-steps : goal.returns-clause-steps
returns-clause-steps c =
    let over = members_from-end c.loop-self.self.set c.loop-self.self.next (omega arith) in
    (sym c.loop-self.invariant ∙ over, over)
