use Rattle.std.proofs.Common.{◌≡◌, ◌-◌, ◌<◌, ◌≤◌, ℕ, Some, length, slice_get}
use Rattle.hs_kept.specs.declared.packing.StateField.{StateField}
use Rattle.hs_kept.proofs.packing.Packing.first_from.Given as goal

abbrev pub invariant-loop-low : goal.invariant-loop-low
invariant-loop-low l = record {
  order : l.low ≤ l.high;
  within : l.high ≤ length l.self.fields.items;
  before : (j : ℕ) (f : StateField) → j < l.low → slice_get l.self.fields.items j ≡ Some f → f.at < l.at;
  own : (f : StateField) → slice_get l.self.fields.items l.high ≡ Some f → l.at ≤ f.at;
}

abbrev pub decreases-loop-low : goal.decreases-loop-low
decreases-loop-low l = l.high - l.low
