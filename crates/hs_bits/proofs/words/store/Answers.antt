use Rattle.std.proofs.Common.{◌∙◌, arith, length}
use Rattle.std.proofs.lemmas.List.{length-set}
use Rattle.hs_base.specs.Bits.{has_word_bit}
use Rattle.hs_bits.proofs.PackedLemmas.{all-stored, bits-of_packed, byte-stored}
use Rattle.hs_bits.proofs.words.store.Goals as goal

pub loop-place-init : goal.loop-place-init
loop-place-init c = record { len = c.store_whole_words.ensures.len; are = c.store_whole_words.ensures.are }

pub loop-place-preserved : goal.loop-place-preserved
loop-place-preserved c =
    record {
      len = length-set c.loop-place.bytes c.loop-place.place c.byte_of.result ∙ c.loop-place.invariant.len;
      are = byte-stored c.loop-place.bytes c.loop-place.place c.byte_of.result (has_word_bit c.args.words.now) (omega (arith, c.loop-place.invariant.len)) c.byte_of.ensures c.loop-place.invariant.are;
    }

pub returns-clause-packed : goal.returns-clause-packed
returns-clause-packed c = all-stored c.loop-place.bytes (length c.args.bytes.now) (has_word_bit c.args.words.now) c.loop-place.invariant.len (λ i below. c.loop-place.invariant.are i (omega arith))

pub returns-clause-bits : goal.returns-clause-bits
returns-clause-bits c = bits-of_packed c.loop-place.bytes (length c.args.bytes.now) (has_word_bit c.args.words.now) (returns-clause-packed c)
