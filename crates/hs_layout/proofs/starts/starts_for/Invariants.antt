use Rattle.std.proofs.Common.{◌≡◌, ◌++◌, drop, length, slice_index}
use Rattle.hs_base.specs.Regions.{sums_from}
use Rattle.hs_layout.proofs.starts.starts_for.Given as goal

abbrev pub invariant-loop-size : goal.invariant-loop-size
invariant-loop-size l = record {
  whole : l.starts.items ++ sums_from l.at (drop l.size-index l.sizes) ≡ sums_from l.fn.first l.sizes;
  end : slice_index (sums_from l.at (drop l.size-index l.sizes)) (length (drop l.size-index l.sizes))
      ≡ slice_index (sums_from l.fn.first l.sizes) (length l.sizes);
}
