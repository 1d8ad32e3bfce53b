use Rattle.std.proofs.Common.{ℕ, ◌&&◌, ◌||◌, length, get_or, ap, sym, ◌∙◌}
use Rattle.hs_engine.specs.AnyBelow.{any_below}
use Rattle.hs_bits.specs.WordBits.{word_bit}
use Rattle.hs_bits.proofs.PlaceLemmas.{bit-either, bit-none}
use Rattle.hs_block.proofs.PositionWordLemmas.{few-left, lowest-within, united-more, united-none}
use Rattle.hs_block.proofs.position_words.united.Goals as goal

pub loop-left-init : goal.loop-left-init
loop-left-init c = record {
  few = c.requires.few;
  whole = λ i. ap (λ b. b || any_below (length c.args.words.now) (λ y. word_bit (get_or c.args.words.now y 0) i && word_bit c.args.numbers y)) (bit-none i);
}

pub bounds-words-lowest_bit : goal.bounds-words-lowest_bit
bounds-words-lowest_bit c = lowest-within (length c.args.words.now) c.loop-left.left c.lowest_bit.result c.lowest_bit.ensures.lowest c.loop-left.invariant.few

pub loop-left-preserved : goal.loop-left-preserved
loop-left-preserved c =
    let words = c.args.words.now in
    let n : ℕ = length words in
    let left : ℕ = c.loop-left.left in
    let place : ℕ = c.lowest_bit.result in
    let rest : ℕ = c.without_lowest_bit-left.result in
    let low = c.lowest_bit.ensures.lowest in
    let behind = c.without_lowest_bit-left.ensures.behind place low in
    let below = lowest-within n left place low c.loop-left.invariant.few in
    record {
      few = few-left n left place rest low behind below (λ y. word_bit (get_or words y 0) 0) c.loop-left.invariant.few;
      whole = λ i.
          united-more n left place rest low behind below (λ y. word_bit (get_or words y 0) i) (word_bit c.loop-left.all i) _ _ (bit-either c.loop-left.all (get_or words place 0) i) (c.loop-left.invariant.whole i);
    }

pub returns : goal.returns
returns c i =
    let words = c.args.words.now in
    sym (united-none (length words) c.loop-left.left (λ y. word_bit (get_or words y 0) i) c.loop-left-test.false (word_bit c.loop-left.all i)) ∙ c.loop-left.invariant.whole i
