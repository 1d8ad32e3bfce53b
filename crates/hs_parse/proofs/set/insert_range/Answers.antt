use Rattle.hs_parse.proofs.InsertLemmas.{no_range, code_within, more_range, whole_range}
use Rattle.hs_parse.proofs.set.insert_range.Goals as goal

pub loop-code-init : goal.loop-code-init
loop-code-init c = no_range c.args.caseless c.args.first c.args.last c.args.set.now

pub loop-code-preserved : goal.loop-code-preserved
loop-code-preserved c =
    let there = code_within c.args.last c.behind-code-end.result c.loop-code.code c.behind-code-end.ensures c.loop-code-test.true in
    more_range c.args.caseless c.args.first c.args.last c.loop-code.code c.args.set.now c.loop-code.set c.insert_letter.new.set
    c.loop-code.invariant there.0 c.insert_letter.ensures

pub returns : goal.returns
returns c =
    whole_range c.args.caseless c.args.first c.args.last c.behind-code-end.result c.loop-code.code c.args.set.now c.loop-code.set
    c.loop-code.invariant c.behind-code-end.ensures c.loop-code-test.false
