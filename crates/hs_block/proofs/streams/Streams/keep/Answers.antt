use Rattle.std.proofs.Common.{◌&&◌, ◌-◌, nat_lt, length, get_or, ap, sym, ◌∙◌, arith}
use Rattle.hs_base.specs.Bits.{has_word_bit}
use Rattle.hs_bits.specs.WordBits.{word_bit}
use Rattle.hs_bits.proofs.PackedLemmas.{packed-same}
use Rattle.hs_bits.proofs.PlaceLemmas.{bit-none}
use Rattle.hs_bits.proofs.WordLemmas.{all-under}
use Rattle.hs_block.proofs.streams.Streams.keep.Goals as goal

pub returns-then-count-gt0-clause-some : goal.returns-then-count-gt0-clause-some
returns-then-count-gt0-clause-some g c last is =
    let s = c.args.self.now in
    let words = c.args.words.now in
    c.store.ensures.packed
    ∙ packed-same (length c.args.region.now) (has_word_bit c.column.result) (λ x. nat_lt x s.size && word_bit (get_or words x 0) last)
    (λ x below.
    c.column.ensures.bits x
    ∙ (sym (all-under x s.size (word_bit (get_or words x 0) (c.args.count - 1)) (λ past. ap (λ w. word_bit w (c.args.count - 1)) (c.requires.lit.dark x (c.requires.lit.few x past)) ∙ bit-none (c.args.count - 1)))
    ∙ ap (λ k. nat_lt x s.size && word_bit (get_or words x 0) k) (omega arith)))
