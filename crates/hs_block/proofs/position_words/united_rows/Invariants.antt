use Rattle.std.proofs.Common.{◌≡◌, ℕ, ◌*◌, ◌&&◌, get_or}
use Rattle.hs_base.specs.Bits.{has_word_bit}
use Rattle.hs_engine.specs.AnyBelow.{any_below}
use Rattle.hs_bits.specs.WordBits.{word_bit}
use Rattle.hs_block.proofs.position_words.united_rows.Given as goal

abbrev pub invariant-loop-place : goal.invariant-loop-place
invariant-loop-place l = (i : ℕ) → word_bit l.all i ≡ any_below (64 * l.place) (λ y. word_bit (get_or l.words y 0) i && (has_word_bit l.row y && has_word_bit l.live y))
