use Rattle.std.proofs.Common.{◌≡◌, ◌+◌, ◌*◌, ◌||◌, ap, ◌∙◌, arith}
use Rattle.hs_base.specs.Contexts.{Context}
use Rattle.hs_engine.specs.AnyBelow.{any_below}
use Rattle.hs_base.specs.Bits.{has_word_bit}
use Rattle.hs_limex.specs.Leading.{far_leads}
use Rattle.hs_limex.proofs.leading.lead_far.Goals as goal

pub loop-place-preserved : goal.loop-place-preserved
loop-place-preserved c =
    let p = c.loop-place.place in
    let here : Context = record { prev = c.args.prev; next = c.args.next } in
    let next : 64 * p + 64 ≡ 64 * (p + 1) = omega arith in
    record {
      len = c.lead_word.ensures.len ∙ c.loop-place.invariant.len;
      bits = λ k.
          c.lead_word.ensures.bits k (has_word_bit c.args.led.now k) (c.loop-place.invariant.bits k)
          ∙ ap (λ n. any_below n (far_leads c.args.follows.now c.args.live.now c.args.far.now here k) || has_word_bit c.args.led.now k) next;
    }
