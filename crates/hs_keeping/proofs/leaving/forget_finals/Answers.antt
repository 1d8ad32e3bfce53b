use Rattle.std.proofs.Common.{length, refl, subst, arith}
use Rattle.std.specs.Slice.Scan.{HoldsNowhere}
use Rattle.hs_bits.specs.NextBits.{IsNextBit}
use Rattle.hs_reports.specs.EndTables.{is_noted}
use Rattle.hs_keeping.proofs.ForgetLemmas.{forgotten-all, forgotten-more}
use Rattle.hs_keeping.proofs.leaving.forget_finals.Goals as goal

pub loop-p-init : goal.loop-p-init
loop-p-init c = record { within = omega arith; count_is = refl; none = λ k below. absurd (omega arith) }

pub loop-p-preserved : goal.loop-p-preserved
loop-p-preserved c =
    let old = c.loop-p.finals in
    forgotten-more (length c.args.finals.now.words) c.loop-p.from c.in-Some.p old c.reset.new.self c.in-Some.ensures.quiet
    (subst (λ n. IsNextBit (is_noted old) c.loop-p.from n c.in-Some.p) c.loop-p.invariant.count_is c.in-Some.ensures.next) c.reset.ensures c.loop-p.invariant

pub returns-clause-none : goal.returns-clause-none
returns-clause-none c =
    let now = c.loop-p.finals in
    forgotten-all (length c.args.finals.now.words) c.loop-p.from now c.in_default.ensures.quiet
    (subst (λ n. HoldsNowhere (is_noted now) c.loop-p.from n) c.loop-p.invariant.count_is c.in_default.ensures.next) c.loop-p.invariant

pub overflow_add-from : goal.overflow_add-from
overflow_add-from c = omega (arith, c.in-Some.ensures.next.high, c.loop-p.invariant.count_is, c.count.ensures.count, c.count.ensures.few)
