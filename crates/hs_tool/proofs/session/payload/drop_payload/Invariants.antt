use Rattle.std.proofs.Common.{◌≡◌}
use Rattle.hs_tool.proofs.PayloadLemmas.{SomeHaveCome}
use Rattle.hs_tool.proofs.session.payload.drop_payload.Given as goal

abbrev pub invariant-loop-left : goal.invariant-loop-left
invariant-loop-left g l = record {
  come : SomeHaveCome (g.I.Source.left l.fn.input) (g.I.Source.left l.input) l.fn.reader l.reader l.count l.left;
  counted : g.I.Source.faults l.input ≡ g.I.Source.faults l.fn.input;
}

abbrev pub decreases-loop-left : goal.decreases-loop-left
decreases-loop-left g l = l.left
