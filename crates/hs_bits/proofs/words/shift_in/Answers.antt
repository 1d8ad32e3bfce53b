use Rattle.std.proofs.Common.{◌&&◌, ◌||◌, ◌∙◌, ap, arith, get_or, bit_or, refl, sym}
use Rattle.std.proofs.lemmas.Bool.{le-ltb}
use Rattle.std.proofs.lemmas.List.{length-set}
use Rattle.hs_base.specs.Bits.{has_word_bit}
use Rattle.hs_bits.specs.Shifts.{is_shifted}
use Rattle.hs_bits.proofs.WordLemmas.{no-carry, shift-more, carry-more}
use Rattle.hs_bits.proofs.words.shift_in.Goals as goal

pub loop-place-init : goal.loop-place-init
loop-place-init c = record { len = refl; bits = λ k. sym (ap (λ b. (b && is_shifted c.args.live.now c.args.row.now c.args.distance k) || has_word_bit c.args.led.now k) (le-ltb k 0 (omega arith))); carry = no-carry c.args.live.now c.args.row.now c.args.distance }

pub loop-place-preserved : goal.loop-place-preserved
loop-place-preserved c =
    let led = c.loop-place.led in
    let p = c.loop-place.place in
    record {
      len = length-set led p (bit_or (get_or led p 0) c.shifted.result) ∙ c.loop-place.invariant.len;
      bits = shift-more c.args.live.now c.args.row.now led c.args.led.now p c.args.distance c.shifted.result c.loop-place.carry c.requires.near (omega (arith, c.loop-place.invariant.len, c.requires.led))
          c.loop-place.invariant.carry c.shifted.ensures c.loop-place.invariant.bits;
      carry = carry-more c.args.live.now c.args.row.now p c.args.distance c.carried-carry.result c.requires.near c.carried-carry.ensures;
    }
