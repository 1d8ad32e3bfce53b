use Rattle.hs_bits.proofs.MarkLemmas.{row-all, row-more, row-none}
use Rattle.hs_bits.proofs.marks.MarkSet.mark_row.Goals as goal

pub loop-k-init : goal.loop-k-init
loop-k-init c = row-none c.args.row.now c.args.self.now

pub loop-k-preserved : goal.loop-k-preserved
loop-k-preserved c =
    row-more c.args.row.now c.args.self.now c.loop-k.self c.write.new.self c.loop-k.from c.in-Some.k c.in-Some.ensures c.write.ensures.room c.write.ensures.put c.write.ensures.others c.loop-k.invariant

pub returns-clause-marked : goal.returns-clause-marked
returns-clause-marked c = row-all c.args.row.now c.args.self.now c.loop-k.self c.loop-k.from c.in_default.ensures c.loop-k.invariant
