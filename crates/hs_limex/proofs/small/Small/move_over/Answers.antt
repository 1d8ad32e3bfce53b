use Rattle.std.proofs.Common.{◌≡◌, ◌*◌, ◌<◌, true, ◌&&◌, bit_and, length, sym, ◌∙◌, arith}
use Rattle.std.specs.Prelude.{nat_lt}
use Rattle.std.proofs.lemmas.Bool.{lt-ltb, ltb-true}
use Rattle.hs_base.specs.Bits.{has_bit}
use Rattle.hs_base.proofs.ContextLemmas.{first_of_both, second_of_both, of_both}
use Rattle.hs_base.proofs.ContextSetLemmas.{bit-and}
use Rattle.hs_limex.specs.SingleWords.{is_set}
use Rattle.hs_limex.specs.SmallMoves.{moves_of_small}
use Rattle.hs_limex.proofs.StepLemmas.{led-as}
use Rattle.hs_limex.proofs.small.Small.move_over.Goals as goal

pub returns-clause-sound : goal.returns-clause-sound
returns-clause-sound c h k set =
    let s = c.args.self.now in
    let old = c.args.region.now in
    let led = c.lead-led.result in
    let row = c.row.result in
    let stored : (nat_lt k (8 * length old) && is_set (bit_and led row) k) ≡ true = sym (c.store_word.ensures.bits k) ∙ set in
    let below : k < 8 * length old = ltb-true k (8 * length old) (first_of_both (nat_lt k (8 * length old)) (is_set (bit_and led row) k) stored) in
    let both : (is_set led k && is_set row k) ≡ true = sym (bit-and led row k) ∙ second_of_both (nat_lt k (8 * length old)) (is_set (bit_and led row) k) stored in (
      sym (c.row.ensures k) ∙ second_of_both (is_set led k) (is_set row k) both,
      led-as (moves_of_small s) (is_set c.load.result) (has_bit old) h c.args.entering k c.load.ensures
          (c.lead-led.ensures.sound h k (omega (arith, below, c.requires, s.few)) (first_of_both (is_set led k) (is_set row k) both)),
    )

pub returns-clause-whole : goal.returns-clause-whole
returns-clause-whole c h k below reach leads =
    let s = c.args.self.now in
    let old = c.args.region.now in
    let led = c.lead-led.result in
    let row = c.row.result in
    let is_led : is_set led k ≡ true =
    c.lead-led.ensures.whole h k (omega (arith, below, c.requires, s.few))
    (led-as (moves_of_small s) (has_bit old) (is_set c.load.result) h c.args.entering k (λ x. sym (c.load.ensures x)) leads) in
    let both : is_set (bit_and led row) k ≡ true = bit-and led row k ∙ of_both (is_set led k) (is_set row k) is_led (c.row.ensures k ∙ reach) in
    c.store_word.ensures.bits k ∙ of_both (nat_lt k (8 * length old)) (is_set (bit_and led row) k) (lt-ltb k (8 * length old) below) both
