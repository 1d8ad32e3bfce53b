use Rattle.std.proofs.Common.{◌-◌, ◌*◌, ◌&&◌, ◌||◌, ap, ◌∙◌, arith}
use Rattle.std.specs.Prelude.{nat_lt, nat_le}
use Rattle.hs_base.specs.Bits.{has_word_bit}
use Rattle.hs_bits.specs.Shifts.{is_shifted}
use Rattle.hs_limex.specs.Leading.{near_leads}
use Rattle.hs_limex.proofs.LeadLemmas.{near-used}
use Rattle.hs_limex.proofs.PlainLemmas.{any-more}
use Rattle.hs_limex.proofs.leading.lead_near.Goals as goal

pub loop-distance-preserved : goal.loop-distance-preserved
loop-distance-preserved g c =
    let d = c.loop-distance.distance in
    let live = c.args.live.now in
    let row = c.row_in-row.result.now in
    record {
      len = c.shift_in.ensures.len ∙ c.loop-distance.invariant.len;
      bits = λ k.
          any-more d (near_leads c.args.near.now live c.args.number k) (has_word_bit c.loop-distance.led k) (has_word_bit c.shift_in.new.led k) (has_word_bit c.args.led.now k) (c.loop-distance.invariant.bits k)
          (c.shift_in.ensures.bits k
          ∙ (ap (λ n. (nat_lt k (64 * n) && is_shifted live row d k) || has_word_bit c.loop-distance.led k) c.row_in-row.ensures.len
          ∙ ap (λ b. (nat_lt k (64 * c.args.near.now.width) && (nat_le d k && (has_word_bit live (k - d) && b))) || has_word_bit c.loop-distance.led k) (c.row_in-row.ensures.bits (k - d))));
    }

pub returns-clause-bits : goal.returns-clause-bits
returns-clause-bits g c k =
    c.loop-distance.invariant.bits k
    ∙ ap (λ b. b || has_word_bit c.args.led.now k)
    (near-used c.args.near.now c.args.live.now c.args.span c.loop-distance.distance c.args.number k c.requires.number (omega arith) (omega arith) c.requires.used)
