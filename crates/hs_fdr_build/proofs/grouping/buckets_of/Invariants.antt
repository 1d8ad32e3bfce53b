use Rattle.std.proofs.Common.{◌≡◌, ◌<◌, All, length, vec_len}
use Rattle.hs_fdr_build.proofs.grouping.buckets_of.Given as goal

abbrev pub invariant-loop-rank : goal.invariant-loop-rank
invariant-loop-rank l = (vec_len l.buckets ≡ length l.literals) × All (λ b. b < 8) l.buckets.items
