use Rattle.hs_base.proofs.LiteralLemmas.{small-above}
use Rattle.hs_fdr_build.proofs.LiteralByteLemmas.{takes-one, takes-both}
use Rattle.hs_fdr_build.proofs.clear.bytes_of.Goals as goal

pub returns-then-x : goal.returns-then-x
returns-then-x c =
    let x = c.args.x.now in
    takes-both x.byte x.both_cases c.if-x.true (small-above x.byte (x.small c.if-x.true))

pub returns-else-x : goal.returns-else-x
returns-else-x c = takes-one c.args.x.now.byte c.args.x.now.both_cases c.if-x.false

pub overflow_sub-result : goal.overflow_sub-result
overflow_sub-result c = small-above c.args.x.now.byte (c.args.x.now.small c.if-x.true)
