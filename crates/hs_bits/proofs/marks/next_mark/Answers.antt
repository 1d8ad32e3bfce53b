use Rattle.std.proofs.Common.{◌+◌, ◌*◌, ◌/◌, ◌%◌, ◌^◌, get_or, refl, subst, arith}
use Rattle.std.specs.Slice.Scan.{HoldsNowhere}
use Rattle.hs_base.specs.Bits.{has_word_bit}
use Rattle.hs_bits.proofs.MarkLemmas.{first-in, none-last, none-to, word-within}
use Rattle.hs_bits.proofs.marks.next_mark.Goals as goal

pub returns-then-rest-ne0 : goal.returns-then-rest-ne0
returns-then-rest-ne0 c =
    let words = c.args.words.now in
    let w = c.args.from / 64 in
    let s = c.args.from % 64 in
    first-in words c.args.from w s (get_or words w 0 / 2 ^ s) c.lowest_bit.result (c.args.from + c.lowest_bit.result) (omega arith) refl c.lowest_bit.ensures.lowest (c.type_inv.words w).fits (omega arith)
    (λ k above below. absurd (omega arith)) (omega arith) (word-within (get_or words w 0) s c.lowest_bit.result (omega arith) c.lowest_bit.ensures.lowest (c.type_inv.words w).fits) (omega arith)

pub returns-in_default : goal.returns-in_default
returns-in_default c = none-last c.args.words.now c.args.summary.now c.args.from _ c.requires refl c.if-rest-ne0.false (omega arith) c.in_default.ensures

pub returns : goal.returns
returns c =
    let words = c.args.words.now in
    let w = c.in-Some.word in
    first-in words c.args.from w 0 (get_or words w 0) c.lowest_bit-2.result (64 * w + c.lowest_bit-2.result) (omega arith) (omega arith) c.lowest_bit-2.ensures.lowest (c.type_inv.words w).fits (omega (arith, c.in-Some.ensures.low))
    (subst (λ n. HoldsNowhere (has_word_bit words) c.args.from n) (omega arith) (none-to words c.args.summary.now c.args.from _ w c.requires refl c.if-rest-ne0.false (omega (arith, c.in-Some.ensures.high)) c.in-Some.ensures.least c.in-Some.ensures.low))
    (omega (arith, c.in-Some.ensures.high)) (omega arith) (omega arith)
