use Rattle.std.proofs.Common.{◌≡◌, ◌+◌, ◌*◌, ◌||◌, ◌∙◌, ap, arith}
use Rattle.hs_base.specs.Contexts.{Context}
use Rattle.hs_base.specs.Bits.{has_bit}
use Rattle.hs_engine.specs.AnyBelow.{any_below}
use Rattle.hs_engine.specs.Tables.{leads_to}
use Rattle.hs_nfa.proofs.plain.follow.Goals as goal

pub loop-place-preserved : goal.loop-place-preserved
loop-place-preserved c =
    let p = c.loop-place.place in
    let here : Context = record { prev = c.args.prev; next = c.args.next } in
    let next : 8 * p + 8 ≡ 8 * (p + 1) = omega arith in
    record {
      len = c.follow_byte.ensures.len ∙ c.loop-place.invariant.len;
      bits = λ k.
          c.follow_byte.ensures.bits k (has_bit c.args.led.now k) (c.loop-place.invariant.bits k)
          ∙ ap (λ n. any_below n (leads_to c.args.follows.now c.args.region.now here k) || has_bit c.args.led.now k) next;
    }
