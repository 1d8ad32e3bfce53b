use Rattle.std.proofs.Common.{All, ◌<◌, length}
use Rattle.hs_fdr_build.proofs.grouping.ranks_of.Given as goal

abbrev pub invariant-loop-number : goal.invariant-loop-number
invariant-loop-number l = All (λ rank. rank.number < length l.literals) l.ranks.items
