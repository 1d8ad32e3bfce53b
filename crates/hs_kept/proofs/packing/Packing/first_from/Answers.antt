use Rattle.std.proofs.Common.{◌+◌, ◌-◌, ◌/◌, ◌<◌, ℕ, length, arith}
use Rattle.hs_kept.proofs.FieldLemmas.{before-middle, own-middle}
use Rattle.hs_kept.proofs.packing.Packing.first_from.Goals as goal

pub loop-low-preserved-then-index-at : goal.loop-low-preserved-then-index-at
loop-low-preserved-then-index-at c =
    let middle : ℕ = c.loop-low.low + (c.loop-low.high - c.loop-low.low) / 2 in
    let below : middle < length c.args.self.now.fields.items = omega (arith, c.loop-low-test.true, c.loop-low.invariant.within) in
    record {
      order = omega (arith, c.loop-low-test.true);
      within = c.loop-low.invariant.within;
      before = before-middle c.args.self.now.fields.items _ _ c.args.at middle c.index.result.now c.args.self.now.apart below c.index.ensures c.if-index-at.true;
      own = c.loop-low.invariant.own;
    }

pub loop-low-preserved : goal.loop-low-preserved
loop-low-preserved c =
    let middle : ℕ = c.loop-low.low + (c.loop-low.high - c.loop-low.low) / 2 in
    let below : middle < length c.args.self.now.fields.items = omega (arith, c.loop-low-test.true, c.loop-low.invariant.within) in
    record {
      order = omega (arith, c.loop-low-test.true);
      within = omega (arith, below);
      before = c.loop-low.invariant.before;
      own = own-middle c.args.self.now.fields.items c.args.at middle c.index.result.now below c.index.ensures c.if-index-at.false;
    }
