use Rattle.std.proofs.Common.{◌≡◌, length, take, [], subst, ap, ◌∙◌, arith}
use Rattle.std.proofs.Math.Seq.{take-length}
use Rattle.hs_plain.specs.PlainPatterns.{patterns_of, pairs_of, AddsPairs}
use Rattle.hs_plain.proofs.EndLemmas.{IsGiven, given-more, given-pairs}
use Rattle.hs_plain.proofs.pair_list.pairs.Goals as goal

pub loop-i-preserved : goal.loop-i-preserved
loop-i-preserved c =
    given-more c.args.patterns.now c.loop-i.i c.index-patterns-i.result c.args.stream.now c.args.ended [] (pairs_of c.loop-i.found.items) (pairs_of c.add_pattern.new.found.items) c.loop-i-test.true c.index-patterns-i.is c.loop-i.invariant c.in_ok-add_pattern.ensures

pub returns : goal.returns
returns c =
    let patterns = c.args.patterns.now in
    let w = c.args.stream.now in
    let whole : c.loop-i.i ≡ length patterns = omega arith in
    given-pairs (patterns_of patterns) w c.args.ended (pairs_of c.loop-i.found.items) (c.has_begun.ensures.0 c.if-not-has_begun.false)
    (subst (λ xs. AddsPairs (IsGiven w c.args.ended (patterns_of xs)) [] (pairs_of c.loop-i.found.items)) (ap (λ n. take n patterns) whole ∙ take-length patterns) c.loop-i.invariant)
