use Rattle.std.proofs.Common.{◌≡◌, ◌+◌, ◌<◌, ℕ, length, get_or}
use Rattle.hs_fdr.proofs.block.behind_one.Given as goal

abbrev pub invariant-loop-k : goal.invariant-loop-k
invariant-loop-k l =
    (length l.bytes ≡ 9)
    × ((i : ℕ) → i < l.k → get_or l.bytes (i + 1) 0 ≡ get_or l.before i 0)
    × ((i : ℕ) → l.k < i → i < 9 → get_or l.bytes i 0 ≡ l.first)
