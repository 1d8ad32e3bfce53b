use Rattle.std.proofs.Common.{◌*◌, ◌+◌, ◌-◌, ◌∙◌, ap, arith, drop, length}
use Rattle.std.proofs.Math.Facts.{Fits-lt-pow}
use Rattle.hs_bits.proofs.PackedLemmas.{length-stored, word-stored}
use Rattle.hs_bits.proofs.words.store_whole_words.Goals as goal

pub loop-place-preserved : goal.loop-place-preserved
loop-place-preserved c =
    let place = c.loop-place.place in
    let bytes = c.loop-place.bytes in
    let back = drop (8 * place + 8 - 8 * place) (drop (8 * place) bytes) in
    let written = c.copy_from_slice.ensures.after ∙ c.to_le_bytes.ensures in
    record {
      len = length-stored bytes c.copy_from_slice.new.self place (omega (arith, c.loop-place.invariant.len, c.requires.bytes)) (ap length written) ∙ c.loop-place.invariant.len;
      are = word-stored c.args.words.now bytes c.copy_from_slice.new.self back place (Fits-lt-pow (c.type_inv.words place)) (omega (arith, c.loop-place.invariant.len, c.requires.bytes)) written c.loop-place.invariant.are;
    }
