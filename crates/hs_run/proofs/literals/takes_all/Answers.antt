use Rattle.std.proofs.Common.{◌∙◌, ◌+◌, ◌&&◌, sym, ap, arith, map, drop}
use Rattle.hs_base.specs.LiteralView.{literal_byte}
use Rattle.hs_run.specs.Pieces.{takes_all}
use Rattle.hs_run.proofs.TakingLemmas.{takes_all-more, takes_all-end}
use Rattle.hs_run.proofs.literals.takes_all.Goals as goal

pub returns-then-not-contains : goal.returns-then-not-contains
returns-then-not-contains c =
    sym (takes_all-more c.args.literal.now c.args.bytes.now c.loop-at.at c.index-literal-at.result c.contains.result c.loop-at-test.true (omega (arith, c.requires, c.loop-at-test.true)) c.index-literal-at.is (sym c.contains.ensures)
    ∙ ap (λ b. b && takes_all (map literal_byte (drop (c.loop-at.at + 1) c.args.literal.now)) (drop (c.loop-at.at + 1) c.args.bytes.now)) c.if-not-contains.true)
    ∙ c.loop-at.invariant

pub loop-at-preserved : goal.loop-at-preserved
loop-at-preserved c =
    sym (takes_all-more c.args.literal.now c.args.bytes.now c.loop-at.at c.index-literal-at.result c.contains.result c.loop-at-test.true (omega (arith, c.requires, c.loop-at-test.true)) c.index-literal-at.is (sym c.contains.ensures)
    ∙ ap (λ b. b && takes_all (map literal_byte (drop (c.loop-at.at + 1) c.args.literal.now)) (drop (c.loop-at.at + 1) c.args.bytes.now)) c.if-not-contains.false)
    ∙ c.loop-at.invariant

pub returns : goal.returns
returns c = sym (takes_all-end c.args.literal.now c.args.bytes.now c.loop-at.at c.requires c.loop-at-test.false) ∙ c.loop-at.invariant
