use Rattle.std.proofs.Common.{inl, inr, arith}
use Rattle.std.proofs.lemmas.Bool.{cases_lt}
use Rattle.hs_lazy.specs.Ends.{AreTraceEnds}
use Rattle.hs_lazy.proofs.EndLemmas.{past-before, past-behind}
use Rattle.hs_lazy.proofs.TraceLemmas.{ends-further, ends-more, fresh-before, fresh-behind}
use Rattle.hs_lazy.proofs.dfa.LazyDfa.tell_ends.Goals as goal

pub insert-requires-clause-before : goal.insert-requires-clause-before
insert-requires-clause-before c m =
    let ends : AreTraceEnds c.args.self.now.ends.items c.args.trace.now c.in-Some.place c.loop-place.ends.rows =
    ends-further c.args.self.now.ends.items c.args.trace.now c.loop-place.from c.in-Some.place c.loop-place.ends.rows c.in-Some.ensures.from c.in-Some.ensures.silent c.loop-place.invariant.ends in
    elim (cases_lt m 256) [
      | inl small ↦ fresh-before c.args.self.now.ends.items c.args.trace.now c.in-Some.place c.loop-place.ends.rows ends m small
      | inr high ↦ past-before c.loop-place.ends.rows m c.in-Some.place (omega (arith, high, c.loop-place.ends.rows_len))
    ]

pub insert-requires-clause-behind : goal.insert-requires-clause-behind
insert-requires-clause-behind c m =
    let ends : AreTraceEnds c.args.self.now.ends.items c.args.trace.now c.in-Some.place c.loop-place.ends.rows =
    ends-further c.args.self.now.ends.items c.args.trace.now c.loop-place.from c.in-Some.place c.loop-place.ends.rows c.in-Some.ensures.from c.in-Some.ensures.silent c.loop-place.invariant.ends in
    elim (cases_lt m 256) [
      | inl small ↦ fresh-behind c.args.self.now.ends.items c.args.trace.now c.in-Some.place c.loop-place.ends.rows ends m small
      | inr high ↦ past-behind c.loop-place.ends.rows m c.in-Some.place (omega (arith, high, c.loop-place.ends.rows_len))
    ]

pub loop-place-preserved : goal.loop-place-preserved
loop-place-preserved c =
    let ends : AreTraceEnds c.args.self.now.ends.items c.args.trace.now c.in-Some.place c.loop-place.ends.rows =
    ends-further c.args.self.now.ends.items c.args.trace.now c.loop-place.from c.in-Some.place c.loop-place.ends.rows c.in-Some.ensures.from c.in-Some.ensures.silent c.loop-place.invariant.ends in
    record {
      from = omega (arith, c.in-Some.ensures.within);
      ends = ends-more c.args.self.now.ends.items c.args.trace.now c.in-Some.place c.loop-place.ends.rows ends c.insert.new.self.rows c.set_of.result.now
          c.set_of.ensures.same c.insert.ensures.before c.insert.ensures.behind;
    }
