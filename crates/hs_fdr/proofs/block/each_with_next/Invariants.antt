use Rattle.std.proofs.Common.{◌≡◌, ◌<◌, ℕ, length, get_or, cond, ltb}
use Rattle.hs_fdr.proofs.block.each_with_next.Given as goal

abbrev pub invariant-loop-k : goal.invariant-loop-k
invariant-loop-k l = (length l.bytes ≡ 9) × ((i : ℕ) → i < 9 → get_or l.bytes i 0 ≡ cond (ltb i l.k) (get_or l.rest i 0) l.next)
