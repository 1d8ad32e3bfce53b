use Rattle.std.proofs.Common.{◌≡◌, length}
use Rattle.hs_nodes.proofs.FirstLemmas.{AreEverywhereTo}
use Rattle.hs_nodes.proofs.RunLemmas.{AreNowhereFrom}
use Rattle.hs_nodes.proofs.first.everywhere.Given as goal

abbrev pub invariant-loop-j : goal.invariant-loop-j
invariant-loop-j l = record {
  befores : length l.ends.before ≡ 8;
  behinds : length l.ends.behind ≡ 8;
  nowhere : AreNowhereFrom l.j l.ends;
  told : AreEverywhereTo l.chunk.bytes.now l.ends l.j;
}
