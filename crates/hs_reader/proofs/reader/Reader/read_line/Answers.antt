use Rattle.std.proofs.Common.{◌∙◌}
use Rattle.hs_reader.proofs.ReadLemmas.{line-fed, line-more, line-end, when_true, when_false}
use Rattle.hs_reader.proofs.reader.Reader.read_line.Goals as goal

pub returns-then-take_part-clause-read : goal.returns-then-take_part-clause-read
returns-then-take_part-clause-read g c =
    let waits = when_true _ _ c.if-branch.true c.in_ok-fill.ensures.waits in
    line-fed c.loop-self.invariant.so_far c.fill.ensures.consumes waits.1 c.if-take_part.ensures

pub loop-self-preserved : goal.loop-self-preserved
loop-self-preserved g c =
    let waits = when_true _ _ c.if-branch.true c.in_ok-fill.ensures.waits in
    record {
      so_far = line-more c.loop-self.invariant.so_far c.fill.ensures.consumes waits.0 waits.1 c.if-take_part.ensures;
      counted = c.in_ok-fill.ensures.counts ∙ c.loop-self.invariant.counted;
    }

pub returns-clause-read : goal.returns-clause-read
returns-clause-read g c =
    line-end c.loop-self.begun c.loop-self.invariant.so_far c.fill.ensures.consumes (when_false _ _ c.if-branch.false c.in_ok-fill.ensures.waits)
