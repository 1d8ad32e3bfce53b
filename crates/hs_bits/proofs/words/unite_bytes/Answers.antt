use Rattle.std.proofs.Common.{◌≡◌, ◌*◌, ◌/◌, ◌&&◌, ◌||◌, ◌∙◌, ap, arith, length, nat_lt}
use Rattle.hs_base.specs.Bits.{has_bit}
use Rattle.hs_base.specs.Bits.{has_word_bit}
use Rattle.hs_bits.proofs.WordLemmas.{byte-more, bytes-all}
use Rattle.hs_bits.proofs.words.unite_bytes.Goals as goal

pub loop-place-init : goal.loop-place-init
loop-place-init c =
    let bytes : 64 * (length c.args.bytes.now / 8) ≡ 8 * (8 * (length c.args.bytes.now / 8)) = omega arith in
    record {
      len = c.unite_whole_words.ensures.len;
      bits = λ k. c.unite_whole_words.ensures.bits k ∙ ap (λ n. (nat_lt k n && has_bit c.args.bytes.now k) || has_word_bit c.args.words.now k) bytes;
    }

pub loop-place-preserved : goal.loop-place-preserved
loop-place-preserved c =
    record {
      len = c.unite_byte.ensures.len ∙ c.loop-place.invariant.len;
      bits = λ k.
          byte-more c.args.bytes.now c.loop-place.place k (has_word_bit c.loop-place.words k) (has_word_bit c.unite_byte.new.words k) (has_word_bit c.args.words.now k)
          (c.loop-place.invariant.bits k) (c.unite_byte.ensures.bits k);
    }

pub returns-clause-bits : goal.returns-clause-bits
returns-clause-bits c k =
    let all : c.loop-place.place ≡ length c.args.bytes.now = omega arith in
    c.loop-place.invariant.bits k
    ∙ ap (λ b. b || has_word_bit c.args.words.now k) (ap (λ n. nat_lt k (8 * n) && has_bit c.args.bytes.now k) all ∙ bytes-all c.args.bytes.now k)
