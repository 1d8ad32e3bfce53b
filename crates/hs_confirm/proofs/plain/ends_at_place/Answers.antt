use Rattle.std.proofs.Common.{◌+◌, ◌++◌, ◌∙◌, length, sym, arith, length-append}
use Rattle.std.proofs.lemmas.List.{length-map}
use Rattle.hs_base.specs.LiteralView.{literal_byte}
use Rattle.hs_confirm.proofs.TakingLemmas.{ends_there-long}
use Rattle.hs_confirm.proofs.PlainLemmas.{taken_back-more, taken_back-all, untaken}
use Rattle.hs_confirm.proofs.plain.ends_at_place.Goals as goal

pub returns-in-None : goal.returns-in-None
returns-in-None c = let same = length-map c.args.literal.now literal_byte in sym (ends_there-long _ _ _ (omega (arith, same, c.in-None.ensures, c.loop-back-test.true)))

pub returns-then-not-contains : goal.returns-then-not-contains
returns-then-not-contains c =
    sym (untaken c.args.literal.now _ _ c.loop-back.back c.index-literal-literal.result c.in-Some.byte c.loop-back-test.true c.index-literal-literal.is c.in-Some.ensures.1 (sym c.contains.ensures ∙ c.if-not-contains.true))

pub loop-back-preserved : goal.loop-back-preserved
loop-back-preserved c =
    taken_back-more c.args.literal.now (c.args.history.now ++ c.args.bytes.now) (length c.args.history.now + c.args.at) c.loop-back.back c.index-literal-literal.result c.in-Some.byte c.loop-back-test.true c.in-Some.ensures.0 (omega (arith, length-append c.args.history.now c.args.bytes.now, c.requires)) c.index-literal-literal.is c.in-Some.ensures.1 (sym c.contains.ensures ∙ c.if-not-contains.false) c.loop-back.invariant

pub returns : goal.returns
returns c = sym (taken_back-all c.args.literal.now _ _ c.loop-back.back c.loop-back-test.false c.loop-back.auto.back-end c.loop-back.invariant)
