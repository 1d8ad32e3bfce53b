use Rattle.std.proofs.Common.{◌≡◌, ◌<◌, ℕ, length, get_or}
use Rattle.hs_confirm.specs.Keys.{IsMask}
use Rattle.hs_confirm.proofs.widths.masks_of.Given as goal

abbrev pub invariant-loop-bucket : goal.invariant-loop-bucket
invariant-loop-bucket l = record {
  eight : length l.masks ≡ 8;
  masks : (b : ℕ) → b < l.bucket → IsMask (get_or l.widths b 0) (get_or l.masks b 0);
}
