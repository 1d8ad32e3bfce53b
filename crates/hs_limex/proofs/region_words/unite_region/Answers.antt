use Rattle.std.proofs.Common.{◌≡◌, ◌+◌, ◌*◌, ◌||◌, ◌∙◌, ap, refl, get_or, bit_or, arith}
use Rattle.std.proofs.lemmas.List.{length-set}
use Rattle.hs_base.specs.Bits.{has_bit, has_word_bit}
use Rattle.hs_bits.proofs.WordLemmas.{none-under, word-more}
use Rattle.hs_limex.proofs.RegionWordLemmas.{words-all}
use Rattle.hs_limex.proofs.region_words.unite_region.Goals as goal

pub loop-place-init : goal.loop-place-init
loop-place-init c = record { len = refl; bits = λ k. none-under k (has_bit c.args.bytes.now k) (has_word_bit c.args.words.now k) }

pub loop-place-preserved : goal.loop-place-preserved
loop-place-preserved c =
    let words = c.loop-place.words in
    let bytes = c.args.bytes.now in
    let p = c.loop-place.place in
    record {
      len = length-set words p (bit_or (get_or words p 0) c.word_of.result) ∙ c.loop-place.invariant.len;
      bits = word-more words c.args.words.now bytes p c.word_of.result (omega (arith, c.loop-place.invariant.len, c.requires))
          (λ i small. let same : 64 * p + i ≡ 8 * (8 * p) + i = omega arith in c.word_of.ensures i small ∙ ap (has_bit bytes) same) c.loop-place.invariant.bits;
    }

pub returns-clause-bits : goal.returns-clause-bits
returns-clause-bits c k =
    let bytes = c.args.bytes.now in
    c.loop-place.invariant.bits k ∙ ap (λ b. b || has_word_bit c.args.words.now k) (words-all bytes k c.loop-place.place (omega arith))
