use Rattle.std.proofs.Common.{arith}
use Rattle.hs_bits.proofs.MarkLemmas.{summed-none, zero-marks}
use Rattle.hs_bits.proofs.marks.MarkSet.new.Goals as goal

pub invariant_of-result : goal.invariant_of-result
invariant_of-result c =
    summed-none c.in_ok-vec.field-0.items c.in_ok-vec-2.field-0.items c.word_count_for-words.result c.word_count_for.result (c.in_ok-vec.ensures.items_if_clones_equal (λ y e. e)) (c.in_ok-vec-2.ensures.items_if_clones_equal (λ y e. e))
    (omega (arith, c.in_ok-vec.ensures.len, c.in_ok-vec.field-0.ok.0)) (omega (arith, c.in_ok-vec-2.ensures.len, c.in_ok-vec-2.field-0.ok.0)) (omega (arith, c.word_count_for.ensures)) (omega (arith, c.word_count_for.ensures, c.word_count_for-words.ensures)) (omega (arith, c.word_count_for-words.ensures))

pub returns-clause-none : goal.returns-clause-none
returns-clause-none c = zero-marks c.in_ok-vec.field-0.items c.word_count_for-words.result (c.in_ok-vec.ensures.items_if_clones_equal (λ y e. e))
