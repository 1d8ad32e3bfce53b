use Rattle.hs_scan.proofs.HitLemmas.{IsShownTo}
use Rattle.hs_scan.proofs.hits.chunk_hits.Given as goal

abbrev pub invariant-loop-j : goal.invariant-loop-j
invariant-loop-j l = IsShownTo l.rows l.number l.hits l.j
