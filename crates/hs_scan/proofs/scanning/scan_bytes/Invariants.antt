use Rattle.std.proofs.Common.{◌≡◌, ◌+◌, ◌-◌, ◌*◌, ◌≤◌, ℕ, length, take}
use Rattle.std.specs.Prelude.{slice_index}
use Rattle.hs_literals.specs.Held.{held}
use Rattle.hs_nodes.specs.Walks.{IsOutside}
use Rattle.hs_reports.specs.Events.{Takes}
use Rattle.hs_scan.specs.Past.{KeepsEarly}
use Rattle.hs_scan.specs.Scans.{Scans}
use Rattle.hs_scan.specs.Scratches.{HasNoHits, IsBetweenChunks, KeepsAll, stand_of}
use Rattle.hs_scan.proofs.scanning.scan_bytes.Given as goal

abbrev pub invariant-loop-from : goal.invariant-loop-from
invariant-loop-from g l = record {
  within : l.from ≤ length l.bytes;
  len : length l.region ≡ length l.fn.region;
  between : IsBetweenChunks g.E.Engine.meaning l.tables.graph.now l.scratch.at l.region l.cache l.scratch;
  outside : (i : ℕ) → IsOutside l.tables.graph.now.table.nodes.items i → slice_index l.region i ≡ slice_index l.fn.region i;
  keeps : KeepsAll l.fn.scratch l.scratch;
  none : HasNoHits l.scratch;
  early : KeepsEarly l.fn.scratch.at l.scratch.at l.fn.scratch.past l.scratch.past;
  ticks : l.steps ≤ l.fn.steps + 32 * (length l.tables.graph.now.table.nodes.items * l.from);
  at_is : l.scratch.at ≡ l.fn.scratch.at + l.from;
  scans : Takes g.V.Events.tells l.fn.events l.events (Scans g.E.Engine.meaning l.tables.graph.now (held l.tables.literals.now) (stand_of l.fn.scratch l.fn.region) (stand_of l.scratch l.region) (take l.from l.bytes));
}

abbrev pub decreases-loop-from : goal.decreases-loop-from
decreases-loop-from g l = length l.bytes - l.from
