use Rattle.std.proofs.Common.{◌<◌, length}
use Rattle.std.proofs.lemmas.List.Sorted.{All-permutation}
use Rattle.hs_fdr_build.proofs.grouping.ranks_of.Goals as goal

pub returns : goal.returns
returns c = All-permutation (λ rank. rank.number < length c.args.literals.now) c.loop-number.ranks.items c.sort.new.self.items c.in_ok-sort.ensures.permutation c.loop-number.invariant
