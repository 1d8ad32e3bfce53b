use Rattle.std.proofs.Common.{arith, subst, sym}
use Rattle.hs_compile.specs.Answers.{IsLesser, alone, first, second}
use Rattle.hs_compile.proofs.entry.lesser.Goals as goal

pub returns-in-None : goal.returns-in-None
returns-in-None c = subst (λ other. IsLesser c.args.refusal other c.args.refusal) (sym c.in-None.is) alone

pub returns-then-number : goal.returns-then-number
returns-then-number c = subst (λ other. IsLesser c.args.refusal other c.in-Some.other) (sym c.in-Some.is) (second (omega arith))

pub returns-else-number : goal.returns-else-number
returns-else-number c = subst (λ other. IsLesser c.args.refusal other c.args.refusal) (sym c.in-Some.is) (first (omega arith))
