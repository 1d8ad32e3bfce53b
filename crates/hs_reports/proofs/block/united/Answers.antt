use Rattle.hs_reports.proofs.WalkLemmas.{united-more, united-all}
use Rattle.hs_reports.proofs.block.united.Goals as goal

pub loop-word-preserved : goal.loop-word-preserved
loop-word-preserved c = united-more c.args.words.now c.loop-word.all c.loop-word.word-index c.loop-word.invariant

pub returns : goal.returns
returns c = united-all c.args.words.now c.loop-word.all c.loop-word.word-index c.loop-word-test.false c.loop-word.invariant
