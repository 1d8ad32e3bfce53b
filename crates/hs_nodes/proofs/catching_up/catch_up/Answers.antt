use Rattle.std.proofs.Common.{◌≡◌, ◌∙◌, ◌+◌, ◌≤◌, List, ℕ, length, ap, sym, subst, arith}
use Rattle.hs_nodes.proofs.CatchLemmas.{CatchesTo, catches-clear, catches-more, catches-none}
use Rattle.hs_nodes.proofs.catching_up.catch_up.Goals as goal
use Rattle.hs_nodes.proofs.catching_up.catch_up.Goals.{then-from-gt0, else-from-gt0}

pub loop-from-init : goal.loop-from-init
loop-from-init g c =
    let m = g.E.Engine.meaning c.args.engine.now in
    let chunk = c.args.chunk.now in
    let from = c.place_behind_last-from.result in
    let behind = c.place_behind_last-from.ensures in
    elim c.if-from-gt0.branch [
      | then-from-gt0 w ↦
          let new = w.clear_bits.new.bytes in
          let sized : length new ≡ m.width = w.clear_bits.ensures.len ∙ c.requires.len in
          let idle = c.requires.idle new sized w.clear_bits.ensures.zero in
          record {
            len = ap length w.region-is ∙ sized;
            well = subst (λ (r : List ℕ). m.well r (chunk.at + from)) (sym w.region-is) (idle.rests.well (chunk.at + from));
            low = behind.within;
            steps = omega arith;
            catches = subst (λ (r : List ℕ). CatchesTo m c.args.region.now r chunk.prev chunk.at chunk.bytes.now from) (sym w.region-is)
                (catches-clear m c.args.region.now chunk.prev chunk.at chunk.bytes.now new c.args.living.now from c.requires.clears sized w.clear_bits.ensures.zero w.if-from-gt0.true behind.within (behind.small w.if-from-gt0.true) (behind.other w.if-from-gt0.true));
          }
      | else-from-gt0 w ↦
          let none : from ≡ 0 = omega (arith, w.if-from-gt0.false) in
          record {
            len = ap length w.region-is ∙ c.requires.len;
            well = subst (λ (r : List ℕ). m.well r (chunk.at + from)) (sym w.region-is) (subst (λ n. m.well c.args.region.now n) (omega (arith, none)) c.requires.well);
            low = behind.within;
            steps = omega arith;
            catches = subst (λ (r : List ℕ). CatchesTo m c.args.region.now r chunk.prev chunk.at chunk.bytes.now from) (sym w.region-is) (catches-none m c.args.region.now chunk.prev chunk.at chunk.bytes.now from none);
          }
    ]

pub loop-from-preserved : goal.loop-from-preserved
loop-from-preserved g c =
    let m = g.E.Engine.meaning c.args.engine.now in
    let chunk = c.args.chunk.now in
    let inv = c.loop-from.invariant in
    let order : c.loop-from.from ≤ c.min-end.result = omega (arith, c.min-end.ensures, c.loop-from-test.true) in
    let within : c.min-end.result ≤ length chunk.bytes.now = omega (arith, c.min-end.ensures) in
    record {
      len = c.take_bytes.ensures.len;
      well = c.take_bytes.ensures.well;
      low = within;
      steps = omega (arith, c.take_bytes.ensures.ticks, inv.steps);
      catches = catches-more m c.args.region.now chunk.prev chunk.at chunk.bytes.now c.loop-from.region c.take_bytes.new.region c.loop-from.from c.min-end.result order within c.take_bytes.ensures.catches inv.catches;
    }
