use Rattle.std.proofs.Common.{arith, ◌∙◌}
use Rattle.hs_outside.proofs.Viewing.{ReadsAt-again}
use Rattle.hs_lists.specs.Endings.{long_list}
use Rattle.hs_lists.proofs.ReadingLemmas.{EndsBy-read, IsLonger-read}
use Rattle.hs_lists.proofs.skipping.skip_rest.Goals as goal

pub returns-in-Ok-eq0-clause-end : goal.returns-in-Ok-eq0-clause-end
returns-in-Ok-eq0-clause-end g c = EndsBy-read _ c.loop-n.at _ _ _ _ c.loop-n.invariant.within (ReadsAt-again _ _ _ _ _ _ _ c.loop-n.invariant.told c.in-Ok-eq0.ensures.given) c.in-Ok-eq0.field-0-test (omega arith)

pub returns-then-at-n-clause-fault : goal.returns-then-at-n-clause-fault
returns-then-at-n-clause-fault g c kind =
    long_list
    (IsLonger-read _ c.loop-n.at _ _ _ c.in-Ok.n c.loop-n.invariant.within (omega (arith, c.if-at-n.true)) (ReadsAt-again _ _ _ _ _ _ _ c.loop-n.invariant.told c.in-Ok.ensures.given))
    (c.in-Ok.ensures.counted ∙ c.loop-n.invariant.counted)
