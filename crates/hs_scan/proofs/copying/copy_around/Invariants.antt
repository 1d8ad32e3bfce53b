use Rattle.std.proofs.Common.{◌≡◌, ◌+◌, ◌-◌, ◌<◌, ◌≤◌, ℕ, Some, length, slice_get}
use Rattle.std.specs.Prelude.{slice_index}
use Rattle.hs_nodes.specs.declared.graph.FieldCopy.{FieldCopy}
use Rattle.hs_scan.proofs.copying.copy_around.Given as goal

abbrev pub invariant-loop-low : goal.invariant-loop-low
invariant-loop-low g l = record {
  first : l.fn.from ≤ l.low;
  order : l.low ≤ l.high;
  within : l.high ≤ length l.graph.copies.items;
  before : (j : ℕ) (copy : FieldCopy) → l.fn.from ≤ j → j < l.low → slice_get l.graph.copies.items j ≡ Some copy → slice_index l.layout.starts (copy.field + 1) ≤ l.place;
  own : (copy : FieldCopy) → slice_get l.graph.copies.items l.high ≡ Some copy → l.place < slice_index l.layout.starts (copy.field + 1);
}

abbrev pub decreases-loop-low : goal.decreases-loop-low
decreases-loop-low g l = l.high - l.low
