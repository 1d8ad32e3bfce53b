use Rattle.std.proofs.Common.{◌^◌, ◌<◌, refl, ap, ◌∙◌, arith}
use Rattle.hs_bits.specs.WordBits.{one_later, word_bit}
use Rattle.hs_rose.proofs.LastBlockLemmas.{live-is, taken-well, words-take}
use Rattle.hs_rose.proofs.last_blocks.run_last.Goals as goal

pub returns-clause-takes : goal.returns-clause-takes
returns-clause-takes g c =
    let kept = c.args.last.now.nearest in
    let before = c.one_later-before in
    let fits : c.in-Some.left < 2 ^ 64 = omega arith in
    words-take kept.set kept.bound c.args.region.now c.run_whole.new.region c.args.at c.args.enters c.args.bytes.now c.in-Some.left before.result (omega arith) c.if-bytes-ne-WORD_BITS.false
    (λ i below. let b = c.type_inv.bytes i in omega (arith, b)) c.requires.len c.run_whole.ensures.len c.requires.well c.in-Some.ensures.takes
    (λ i below. before.ensures i below ∙ ap (λ b. one_later b (word_bit c.in-Some.left) i) (live-is c.at_rest-live.result c.args.region.now c.requires.len (c.at_rest-live.ensures.zero refl)))
    c.args.prev fits before.type_inv c.count_places.result c.args.steps.now c.tick_by.new.self c.count_places.ensures c.tick_by.ensures

pub returns-clause-well : goal.returns-clause-well
returns-clause-well g c = taken-well (returns-clause-takes g c)
