use Rattle.std.proofs.Common.{◌≡◌, ◌+◌, ◌<◌, true, length, sym, ap, subst, ◌∙◌, arith}
use Rattle.hs_bits.specs.WordBits.{count_set}
use Rattle.hs_block.specs.Rests.{is_busy_at}
use Rattle.hs_block.specs.Progress.{IsRunTo}
use Rattle.hs_block.proofs.RunLemmas.{run-none, run-all}
use Rattle.hs_block.proofs.by_steps.run_by_steps.Goals as goal

pub loop-progress-init : goal.loop-progress-init
loop-progress-init g c =
    let m = g.E.Engine.meaning c.args.engine.now in
    let here : c.args.at ≡ c.args.at + 0 = omega arith in
    let over = c.pass_over.ensures in
    let p = c.pass_over.new.self in
    let start = run-none m c.args.region.now c.args.prev c.args.at c.args.enters c.args.bytes.now c.at_rest-rests.result c.left_behind.result c.requires.len c.requires.well
    c.left_behind.ensures.leaves c.at_rest-rests.ensures.zero c.at_rest-rests.ensures.quiet c.left_behind.ensures.silent in
    record {
      ticks = 0 + count_set c.args.enters 0 p.place;
      counted = omega (arith, over.ticks);
      len = ap length over.same ∙ c.requires.len;
      well = subst (λ part. m.well part (c.args.at + p.place)) (sym over.same) (over.well c.args.at (subst (m.well c.args.region.now) here c.requires.well));
      busy = subst (λ part. p.place < length c.args.bytes.now → is_busy_at part c.args.enters p.place ≡ true) (sym over.same) over.busy;
      run = subst (λ part. IsRunTo m c.args.region.now part c.args.prev c.args.at c.args.enters c.args.bytes.now p (0 + count_set c.args.enters 0 p.place)) (sym over.same)
          (over.runs c.args.region.now c.args.prev c.args.at 0 start);
    }

pub pass_over-requires-in-loop-progress-clause-rests : goal.pass_over-requires-in-loop-progress-clause-rests
pass_over-requires-in-loop-progress-clause-rests g c =
    let inv = c.loop-progress.invariant in
    (c.take_byte.ensures.runs c.args.region.now c.args.prev inv.ticks inv.run).rests

pub pass_over-requires-in-loop-progress-clause-quiet : goal.pass_over-requires-in-loop-progress-clause-quiet
pass_over-requires-in-loop-progress-clause-quiet g c =
    let inv = c.loop-progress.invariant in
    (c.take_byte.ensures.runs c.args.region.now c.args.prev inv.ticks inv.run).quiet

pub loop-progress-preserved : goal.loop-progress-preserved
loop-progress-preserved g c =
    let m = g.E.Engine.meaning c.args.engine.now in
    let inv = c.loop-progress.invariant in
    let taken = c.take_byte.ensures in
    let over = c.pass_over-in-loop-progress.ensures in
    let old = c.take_byte.new.self in
    let p = c.pass_over-in-loop-progress.new.self in
    record {
      ticks = inv.ticks + 1 + count_set c.args.enters old.place p.place;
      counted = omega (arith, inv.counted, taken.ticks, over.ticks);
      len = ap length over.same ∙ taken.len;
      well = subst (λ part. m.well part (c.args.at + p.place)) (sym over.same) (over.well c.args.at taken.well);
      busy = subst (λ part. p.place < length c.args.bytes.now → is_busy_at part c.args.enters p.place ≡ true) (sym over.same) over.busy;
      run = subst (λ part. IsRunTo m c.args.region.now part c.args.prev c.args.at c.args.enters c.args.bytes.now p (inv.ticks + 1 + count_set c.args.enters old.place p.place)) (sym over.same)
          (over.runs c.args.region.now c.args.prev c.args.at (inv.ticks + 1) (taken.runs c.args.region.now c.args.prev inv.ticks inv.run));
    }

pub returns-clause-takes : goal.returns-clause-takes
returns-clause-takes g c =
    let inv = c.loop-progress.invariant in
    record {
      ticks = inv.ticks;
      counted = inv.counted;
      run = run-all (g.E.Engine.meaning c.args.engine.now) c.args.region.now c.loop-progress.region c.args.prev c.args.at c.args.enters c.args.bytes.now c.loop-progress.progress inv.ticks inv.run c.loop-progress-test.false;
    }
