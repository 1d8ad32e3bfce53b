use Rattle.std.proofs.Common.{sym, ◌∙◌}
use Rattle.regex_class.proofs.RangesLemmas.{in_ranges-nil}
use Rattle.hs_parse.proofs.SetLemmas.{no_member}
use Rattle.hs_parse.proofs.InsertLemmas.{ranges_more, ranges_all}
use Rattle.hs_parse.proofs.named_set.set_of.Goals as goal

pub loop-k-init : goal.loop-k-init
loop-k-init c b h = no_member b h ∙ sym (in_ranges-nil b)

pub loop-k-preserved : goal.loop-k-preserved
loop-k-preserved c = ranges_more c.args.ranges.now c.loop-k.k c.loop-k.set c.insert_range.new.set c.loop-k-test.true c.loop-k.invariant c.insert_range.ensures

pub returns : goal.returns
returns c = ranges_all c.args.ranges.now c.loop-k.k c.loop-k.set c.loop-k-test.false c.loop-k.invariant
