use Rattle.std.proofs.Common.{◌≡◌, ◌*◌, ◌&&◌, ◌||◌, ◌∙◌, ap, refl, get_or, bit_or, arith, nat_lt}
use Rattle.std.proofs.lemmas.List.{length-set}
use Rattle.hs_base.specs.Bits.{has_bit, has_word_bit}
use Rattle.hs_bits.proofs.WordLemmas.{none-under, word-more}
use Rattle.hs_bits.proofs.words.unite_whole_words.Goals as goal

pub loop-place-init : goal.loop-place-init
loop-place-init c = record { len = refl; bits = λ k. none-under k (has_bit c.args.bytes.now k) (has_word_bit c.args.words.now k) }

pub loop-place-preserved : goal.loop-place-preserved
loop-place-preserved c =
    let words = c.loop-place.words in
    let p = c.loop-place.place in
    record {
      len = length-set words p (bit_or (get_or words p 0) c.word_at.result) ∙ c.loop-place.invariant.len;
      bits = word-more words c.args.words.now c.args.bytes.now p c.word_at.result (omega (arith, c.loop-place.invariant.len, c.requires.room)) c.word_at.ensures.bits c.loop-place.invariant.bits;
    }

pub returns-clause-bits : goal.returns-clause-bits
returns-clause-bits c k =
    let all : c.loop-place.place ≡ c.args.count = omega arith in
    c.loop-place.invariant.bits k ∙ ap (λ n. (nat_lt k (64 * n) && has_bit c.args.bytes.now k) || has_word_bit c.args.words.now k) all
