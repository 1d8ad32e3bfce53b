use Rattle.std.proofs.Common.{◌≡◌, ◌+◌, ◌*◌, length, take}
use Rattle.hs_nodes.specs.Hits.{IsCarryAt}
use Rattle.hs_nodes.proofs.LiteralLemmas.{TakesLiteralTo}
use Rattle.hs_nodes.proofs.RunLemmas.{AreNowhereFrom}
use Rattle.hs_nodes.proofs.literals.run_entries.Given as goal

abbrev pub invariant-loop-j : goal.invariant-loop-j
invariant-loop-j l = record {
  befores : length l.ends.before ≡ 8;
  behinds : length l.ends.behind ≡ 8;
  nowhere : AreNowhereFrom l.j l.ends;
  takes : TakesLiteralTo l.len l.fn.carry l.carry l.chunk.bytes.now l.hits l.enters l.ends l.j;
  well : IsCarryAt l.len l.fn.carry l.chunk.at → IsCarryAt l.len l.carry (l.chunk.at + length (take (64 * l.j) l.chunk.bytes.now));
}
