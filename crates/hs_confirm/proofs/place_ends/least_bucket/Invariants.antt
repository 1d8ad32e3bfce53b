use Rattle.std.proofs.Common.{◌≡◌, ℕ, ◌<◌, ◌≤◌, get_or}
use Rattle.hs_confirm.proofs.place_ends.least_bucket.Given as goal

abbrev pub invariant-loop-bucket : goal.invariant-loop-bucket
invariant-loop-bucket l = record {
  within : l.least < 8;
  number : l.number ≡ get_or l.heads l.least 0;
  least : (b : ℕ) → b < l.bucket → l.number ≤ get_or l.heads b 0;
}
