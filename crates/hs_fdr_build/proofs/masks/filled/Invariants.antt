use Rattle.std.proofs.Common.{◌≡◌, ◌<◌, ◌/◌, ℕ, vec_len, slice_index}
use Rattle.hs_fdr_build.proofs.masks.filled.Given as goal

abbrev pub invariant-loop-at : goal.invariant-loop-at
invariant-loop-at l = (vec_len l.masks ≡ l.at) × ((k : ℕ) → k < l.at → slice_index l.masks.items k ≡ slice_index l.past (k / l.row))
