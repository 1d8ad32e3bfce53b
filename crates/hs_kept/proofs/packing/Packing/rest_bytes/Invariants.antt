use Rattle.hs_kept.proofs.RowLemmas.{IsRestTo}
use Rattle.hs_kept.proofs.packing.Packing.rest_bytes.Given as goal

abbrev pub invariant-loop-number : goal.invariant-loop-number
invariant-loop-number l = IsRestTo l.self l.prev l.number l.row.items
