use Rattle.std.proofs.Common.{ℕ, Some, sym, subst, arith}
use Rattle.hs_base.specs.ByteSets.{members}
use Rattle.hs_repeat.specs.RepeatEngines.{meaning_of_last}
use Rattle.hs_repeat.specs.Repeats.{repeat_of}
use Rattle.hs_rose.proofs.MakeLemmas.{last-engine}
use Rattle.hs_rose.proofs.making.bounded_engine.Goals as goal

pub returns-in-0 : goal.returns-in-0
returns-in-0 c =
    last-engine c.new.result (members c.args.set) c.args.least c.args.greatest (omega (arith, c.in-0.is))
    (subst (λ (n : ℕ). (meaning_of_last c.new.result).is_for (repeat_of c.args.set n (Some c.args.greatest))) (sym c.in-0.is) c.new.ensures.from_none)

pub returns-in-1 : goal.returns-in-1
returns-in-1 c =
    last-engine c.new-in-1.result (members c.args.set) c.args.least c.args.greatest (omega (arith, c.in-1.is))
    (subst (λ (n : ℕ). (meaning_of_last c.new-in-1.result).is_for (repeat_of c.args.set n (Some c.args.greatest))) (sym c.in-1.is) c.new-in-1.ensures.from_one)
