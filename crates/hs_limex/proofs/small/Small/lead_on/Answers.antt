use Rattle.std.proofs.Common.{◌≡◌, ◌<◌, ◌+◌, ◌*◌, ◌&&◌, true, get_or, sym, ap, ◌∙◌, arith, vec_len}
use Rattle.std.specs.Int.{bit_at}
use Rattle.std.proofs.lemmas.Bool.{eq-eqb, lt-ltb}
use Rattle.std.proofs.lemmas.List.{get_or_read_under}
use Rattle.hs_base.proofs.ContextLemmas.{first_of_both, second_of_both}
use Rattle.hs_base.proofs.ContextSetLemmas.{bit-and}
use Rattle.hs_limex.proofs.SingleLemmas.{led-more, led-near, left-before}
use Rattle.hs_limex.specs.SingleWords.{is_set}
use Rattle.hs_limex.specs.SmallMoves.{small_follows}
use Rattle.hs_limex.proofs.small.Small.lead_on.Goals as goal

pub loop-left-init : goal.loop-left-init
loop-left-init c =
    let s = c.args.self.now in
    let live = c.args.live in
    record {
      led = led-near (small_follows s) live s.far s.span c.lead_near-led.result s.rest_least s.rest_most c.lead_near-led.ensures;
      live = λ x is. first_of_both (is_set live x) (is_set s.far x) (sym (bit-and live s.far x) ∙ is);
      few = λ x is. s.far_few x (second_of_both (is_set live x) (is_set s.far x) (sym (bit-and live s.far x) ∙ is));
    }

pub loop-left-preserved : goal.loop-left-preserved
loop-left-preserved c =
    let s = c.args.self.now in
    let start = 4 * s.pitch + s.span in
    let left = c.loop-left.left in
    let rest = c.without_lowest_bit-left.result in
    let place = c.lowest_bit.result in
    let word = c.index.result.now in
    let low = c.lowest_bit.ensures.lowest in
    let behind = c.without_lowest_bit-left.ensures.behind place low in
    let known = c.loop-left.invariant in
    let set : is_set left place ≡ true = eq-eqb (bit_at left place) 1 low.is in
    let few : place < s.size = known.few place set in
    let read : word ≡ get_or s.words.items (start + place) 0 = get_or_read_under s.words.items (start + place) (vec_len s.words) word 0 c.index.ensures (omega (arith, few, s.whole)) (omega (arith, s.words.ok.0)) in
    record {
      led = led-more (small_follows s) c.args.live left place word rest c.loop-left.led low behind (known.live place set)
          (λ k. ap (λ w. is_set w k) read ∙ sym (ap (λ b. b && is_set (get_or s.words.items (start + place) 0) k) (lt-ltb place s.size few))) known.led;
      live = λ x is. known.live x (left-before left place rest behind x is);
      few = λ x is. known.few x (left-before left place rest behind x is);
    }
