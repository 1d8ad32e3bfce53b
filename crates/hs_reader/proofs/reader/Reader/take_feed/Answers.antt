use Rattle.hs_reader.specs.Reading.{nothing}
use Rattle.hs_reader.proofs.ReadLemmas.{when_true, when_false}
use Rattle.hs_reader.proofs.ReadLemmas.{feed-taken}
use Rattle.hs_reader.proofs.reader.Reader.take_feed.Goals as goal

pub returns-then-not-branch-clause-taken : goal.returns-then-not-branch-clause-taken
returns-then-not-branch-clause-taken g c = nothing c.fill.ensures.consumes (when_false _ _ c.if-not-branch.true c.in_ok-fill.ensures.waits)

pub returns-clause-taken : goal.returns-clause-taken
returns-clause-taken g c =
    let waits = when_true _ _ c.if-not-branch.false c.in_ok-fill.ensures.waits in
    feed-taken c.waiting.result.now c.waiting.ensures c.fill.ensures.consumes waits.0 waits.1 c.advance.ensures.bytes c.advance.ensures.place c.advance.ensures.ended
