use Rattle.std.proofs.Common.{ℕ, ◌&&◌, ◌||◌, get_or, ap, sym, ◌∙◌, arith}
use Rattle.hs_bits.specs.WordBits.{word_bit}
use Rattle.hs_bits.proofs.PlaceLemmas.{bit-none}
use Rattle.hs_bits.proofs.WordLemmas.{and-none, or-none}
use Rattle.hs_block.proofs.ColumnLemmas.{column-next}
use Rattle.hs_block.proofs.PositionWordLemmas.{few-left, lowest-within, past-word}
use Rattle.hs_block.proofs.position_words.column_word.Goals as goal

pub loop-left-init : goal.loop-left-init
loop-left-init c = record {
  few = λ y past. past-word c.args.numbers y (omega arith) past;
  whole = λ y small. ap (λ b. b || (word_bit (get_or c.args.words.now y 0) c.args.place && word_bit c.args.numbers y)) (bit-none y);
}

pub loop-left-preserved : goal.loop-left-preserved
loop-left-preserved c =
    let words = c.args.words.now in
    let left : ℕ = c.loop-left.left in
    let number : ℕ = c.lowest_bit-number.result in
    let rest : ℕ = c.without_lowest_bit-left.result in
    let low = c.lowest_bit-number.ensures.lowest in
    let behind = c.without_lowest_bit-left.ensures.behind number low in
    let below = lowest-within 64 left number low c.loop-left.invariant.few in
    record {
      few = few-left 64 left number rest low behind below (λ y. word_bit (get_or words y 0) 0) c.loop-left.invariant.few;
      whole = λ y small.
          column-next left number rest low behind (λ k. word_bit (get_or words k 0) c.args.place) c.contains_place.result c.contains_place.ensures y (word_bit c.loop-left.row y) _ _ (c.with_place-row.ensures y) (c.loop-left.invariant.whole y small);
    }

pub returns : goal.returns
returns c y small =
    let words = c.args.words.now in
    sym (ap (λ w. word_bit c.loop-left.row y || (word_bit (get_or words y 0) c.args.place && word_bit w y)) c.loop-left-test.false
    ∙ (ap (λ b. word_bit c.loop-left.row y || (word_bit (get_or words y 0) c.args.place && b)) (bit-none y)
    ∙ (ap (λ b. word_bit c.loop-left.row y || b) (and-none (word_bit (get_or words y 0) c.args.place)) ∙ or-none (word_bit c.loop-left.row y))))
    ∙ c.loop-left.invariant.whole y small
