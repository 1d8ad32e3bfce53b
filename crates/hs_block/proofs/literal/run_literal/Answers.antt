use Rattle.std.proofs.Common.{◌≡◌, ◌+◌, refl, sym, ap, ◌∙◌, arith, bit_and}
use Rattle.hs_bits.specs.WordBits.{word_bit}
use Rattle.hs_block.specs.LiteralBlocks.{is_hit, was_entered}
use Rattle.hs_block.proofs.LiteralWordLemmas.{words-below, words-above}
use Rattle.hs_block.proofs.LiteralBlockLemmas.{literal-scans}
use Rattle.hs_block.proofs.literal.run_literal.Goals as goal

pub returns-clause-runs : goal.returns-clause-runs
returns-clause-runs c literal u bytes entered size long count small tells hits =
    let n = c.args.len in
    let x = c.args.enters in
    let y = c.args.carry in
    let low = c.low_places-block.result in
    let first = bit_and c.before-2.result c.entries_from.result in
    let second = bit_and c.args.hits.behind c.entries_from-2.result in
    literal-scans literal n c.args.hits x y (bit_and low first) (bit_and low second) c.entries_from-3.result u bytes entered size c.requires.some count small tells hits
    (λ i below.
    words-below low c.before-2.result c.entries_from.result c.args.count i (is_hit c.args.hits i) (was_entered n x y i) c.low_places-block.ensures (omega arith) (c.before-2.ensures i (omega arith))
    (c.entries_from.ensures i (omega arith) ∙ ap (was_entered n x y) (let e : 0 + i ≡ i = omega arith in e)))
    (λ i above. words-above low first c.args.count i c.low_places-block.ensures (omega arith))
    (λ i below.
    words-below low c.args.hits.behind c.entries_from-2.result c.args.count i (word_bit c.args.hits.behind i) (was_entered n x y (i + 1)) c.low_places-block.ensures (omega arith) refl
    (c.entries_from-2.ensures i (omega arith) ∙ ap (was_entered n x y) (let e : 1 + i ≡ i + 1 = omega arith in e)))
    (λ i above. words-above low second c.args.count i c.low_places-block.ensures (omega arith))
    (λ i below. c.entries_from-3.ensures i (omega arith) ∙ ap (λ k. was_entered n x y (k + i)) (sym long))
