use Rattle.std.proofs.Common.{ℕ, ◌+◌}
use Rattle.hs_reports.specs.Chunks.{chunk_pairs}
use Rattle.hs_reports.specs.Events.{Through}
use Rattle.hs_reports.specs.Identifiers.{id_numbers}
use Rattle.hs_reports.proofs.WalkLemmas.{IsWalked}
use Rattle.hs_reports.specs.WordBits.{row_bit}
use Rattle.hs_reports.proofs.block.tell_block.Given as goal

abbrev pub invariant-loop-left : goal.invariant-loop-left
invariant-loop-left g l =
    (m : ℕ) × IsWalked l.lates l.earlies (l.last + 1) l.left m × Through g.V.Events.tells l.fn.events (chunk_pairs (id_numbers l.ids) (row_bit l.lates) (row_bit l.earlies) l.at m) l.events

abbrev pub decreases-loop-left : goal.decreases-loop-left
decreases-loop-left g l = l.left
