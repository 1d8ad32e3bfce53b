use Rattle.std.proofs.Common.{rules, map, filter, eqb, ap, ◌∙◌}
use borrow.Author.Tests.{tests}
use Rattle.std.proofs.lemmas.Iterator.Splits.{YieldsList-from_slice_split}
use Rattle.std.proofs.lemmas.Iterator.Consumers.{YieldsList-end}
use Rattle.hs_bench.specs.Words.{exact, is_looked_for}
use Rattle.hs_bench.proofs.words.literals_of.Goals as goal

pub returns : goal.returns
returns c =
    let split = c.split-line-items in
    let end =
    YieldsList-end (YieldsList-from_slice_split _ (λ b. eqb b 10) c.args.bytes.now (ap (λ s. s.rest.now) c.into_iter-line-iterator.ensures.into_iter_gives ∙ split.ensures.rest)
    (ap (λ s. s.done) c.into_iter-line-iterator.ensures.into_iter_gives ∙ split.ensures.done) (ap (λ s. s.pred) c.into_iter-line-iterator.ensures.into_iter_gives ∙ split.ensures.closure) (λ x r q k. search (rules, tests)))
    c.loop-line.yielded _ c.loop-line.yielded_by _ _ c.in-None.is c.next.ensures.steps in
    c.loop-line.invariant ∙ ap (λ lines. map exact (filter is_looked_for lines)) end.0
