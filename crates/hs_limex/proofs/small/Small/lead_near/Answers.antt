use Rattle.std.proofs.Common.{◌≡◌, ◌+◌, ◌*◌, get_or, ap, ◌∙◌, arith, vec_len}
use Rattle.std.proofs.lemmas.List.{get_or_read_under}
use Rattle.hs_limex.proofs.SingleLemmas.{near-more, near-none}
use Rattle.hs_limex.specs.SingleWords.{is_set}
use Rattle.hs_limex.specs.SmallMoves.{small_follows}
use Rattle.hs_limex.proofs.small.Small.lead_near.Goals as goal

pub loop-distance-init : goal.loop-distance-init
loop-distance-init c = near-none (small_follows c.args.self.now) c.args.live

pub loop-distance-preserved : goal.loop-distance-preserved
loop-distance-preserved c =
    let s = c.args.self.now in
    let d = c.loop-distance.distance in
    let row = c.index.result.now in
    let read : row ≡ get_or s.words.items (4 * s.pitch + d) 0 = get_or_read_under s.words.items (4 * s.pitch + d) (vec_len s.words) row 0 c.index.ensures (omega (arith, s.whole)) (omega (arith, s.words.ok.0)) in
    near-more (small_follows s) c.args.live row d c.loop-distance.led c.moved_on-led.result (λ k. ap (λ w. is_set w k) read ∙ s.near d k c.loop-distance-test.true) c.moved_on-led.ensures c.loop-distance.invariant
