use Rattle.hs_fdr.proofs.BlockLemmas.{ahead_of_seven}
use Rattle.std.proofs.Common.{◌∙◌, arith}
use Rattle.hs_fdr.proofs.block.ahead_of.Goals as goal

pub returns-then-before : goal.returns-then-before
returns-then-before c =
    ahead_of_seven c.args.tables.now c.args.before.now c.args.block.now c.args.next c.behind_one.result c.group.result c.eight_on.result
    (omega arith) c.behind_one.ensures.bytes (c.behind_one.ensures.behind ∙ c.byte_at-first.ensures) c.group.ensures c.eight_on.ensures
