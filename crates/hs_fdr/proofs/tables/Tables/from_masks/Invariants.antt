use Rattle.std.proofs.Common.{◌≡◌, ◌<◌, ◌+◌, ◌*◌, ◌/◌, ◌%◌, ℕ, get_or, vec_len}
use Rattle.hs_fdr.proofs.tables.Tables.from_masks.Given as goal

abbrev pub invariant-loop-at : goal.invariant-loop-at
invariant-loop-at l = (vec_len l.rows ≡ l.at) × ((k : ℕ) → k < l.at → get_or l.rows.items k 0 ≡ get_or l.masks (k % 8 * l.count + k / 8) 0)
