use Rattle.std.proofs.Common.{arith}
use Rattle.hs_engine.specs.Between.{between}
use Rattle.hs_states.proofs.FootingLemmas.{followed-all, followed-more}
use Rattle.hs_states.proofs.footing.add_followers.Goals as goal

pub loop-position-preserved : goal.loop-position-preserved
loop-position-preserved c =
    let inv = c.loop-position.invariant in
    record {
      within = omega (arith, c.in-Some.ensures.high);
      led = λ k.
          followed-more c.args.rows.now c.args.live.now (between c.args.prev c.args.next) c.loop-position.from c.size-size.result c.in-Some.position k _ _ _ _ c.in-Some.ensures (c.row.ensures.bits k) (c.unite_bytes.ensures.bits k) (inv.led k);
    }

pub returns : goal.returns
returns c k =
    let inv = c.loop-position.invariant in
    let size = c.args.rows.now.size in
    followed-all c.args.rows.now c.args.live.now (between c.args.prev c.args.next) c.loop-position.from size k _ _ (omega (arith, inv.within, c.size-size.ensures.size))
    (λ i low high. c.in_default.ensures i low (omega (arith, high, c.size-size.ensures.size))) (inv.led k)
