use Rattle.std.proofs.Common.{◌≡◌, length, ◌∙◌, arith}
use Rattle.hs_nodes.proofs.LivingLemmas.{idle-by}
use Rattle.hs_bits.proofs.MarkLemmas.{whole-written}
use Rattle.hs_nodes.proofs.living.idle_engine.Goals as goal

pub returns : goal.returns
returns g c listed part size zeros =
    let new = c.clear.new.region in
    let old = c.in_ok-region.region.items in
    let len : length new ≡ length old = omega (arith, c.clear.ensures.len, c.size.ensures, c.in_ok-region.ensures.len, c.in_ok-region.region.ok.0) in
    idle-by (g.E.Engine.meaning c.args.engine.now) new c.deref.result.now part (c.deref.ensures.value ∙ whole-written new old c.in_ok-region.region.len len (omega (arith, c.in_ok-region.region.ok.0))) c.clear.ensures.len c.clear.ensures.starts (c.clear.ensures.zero listed) c.clear.ensures.well
    (λ rests. c.at_rest-is_at_rest.ensures.quiet ((c.at_rest-is_at_rest.ensures.zero listed).1 rests)) size zeros
