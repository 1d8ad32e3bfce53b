use Rattle.std.proofs.Common.{◌-◌, ◌*◌, length}
use Rattle.hs_bits.proofs.MarkLemmas.{AreRowMarks}
use Rattle.hs_bits.proofs.marks.MarkSet.mark_row.Given as goal

abbrev pub invariant-loop-k : goal.invariant-loop-k
invariant-loop-k l = AreRowMarks l.row l.initial.self l.self l.from

abbrev pub decreases-loop-k : goal.decreases-loop-k
decreases-loop-k l = 64 * length l.row - l.from
