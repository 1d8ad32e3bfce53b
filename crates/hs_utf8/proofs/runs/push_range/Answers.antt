use Rattle.std.proofs.Common.{◌≤◌, max, map, refl, arith}
use Rattle.hs_expr.specs.Meaning.{tree_of}
use Rattle.hs_utf8.specs.Lowered.{ascii_end}
use Rattle.hs_utf8.proofs.DigitLemmas.{digits-order}
use Rattle.hs_utf8.proofs.RunLemmas.{same-length, stretch-run, stretch-gap}
use Rattle.hs_utf8.proofs.TreeLists.{map-push}
use Rattle.hs_utf8.proofs.runs.push_range.Goals as goal

pub run_classes-requires-clause-last : goal.run_classes-requires-clause-last
run_classes-requires-clause-last c =
    let order = digits-order c.in-Some.length.tail c.loop-from.from c.run_end-end.result c.run_end-end.ensures.digits in
    c.in-Some.ensures.scalar c.run_end-end.result order (omega (arith, c.run_end-end.ensures.within, c.min.ensures))

pub run_classes-requires-clause-length : goal.run_classes-requires-clause-length
run_classes-requires-clause-length c =
    let order = digits-order c.in-Some.length.tail c.loop-from.from c.run_end-end.result c.run_end-end.ensures.digits in
    same-length c.loop-from.from c.in-Some.length.last c.in-Some.length.tail c.run_end-end.result c.in-Some.ensures order
    (omega (arith, c.run_end-end.ensures.within, c.min.ensures))

pub loop-from-smaller-in-Some : goal.loop-from-smaller-in-Some
loop-from-smaller-in-Some c =
    let order = digits-order c.in-Some.length.tail c.loop-from.from c.run_end-end.result c.run_end-end.ensures.digits in
    let room : c.loop-from.from ≤ c.args.last = c.loop-from-test.true in
    omega (arith, c.run_end-end.ensures.within, c.min.ensures)

pub loop-from-preserved-in-Some : goal.loop-from-preserved-in-Some
loop-from-preserved-in-Some c =
    let order = digits-order c.in-Some.length.tail c.loop-from.from c.run_end-end.result c.run_end-end.ensures.digits in
    let above = c.loop-from.invariant.above in
    record {
      above = omega arith;
      below = omega (arith, c.run_end-end.ensures.within, c.min.ensures);
      added = λ member stretch.
          stretch-run member c.args.first c.args.last (max c.args.first ascii_end) c.loop-from.from c.in-Some.length.last
          c.min.result c.in-Some.length.tail c.run_end-end.result (map tree_of c.args.parts.now.items)
          (map tree_of c.loop-from.parts.items) (map tree_of c.push.new.self.items) (tree_of c.in_ok-run_classes-in-Some.field-0)
          stretch (omega arith) c.loop-from-test.true c.in-Some.ensures (omega (arith, c.min.ensures)) c.run_end-end.ensures
          c.in_ok-run_classes-in-Some.ensures
          (map-push c.loop-from.parts.items c.push.new.self.items c.in_ok-run_classes-in-Some.field-0
          (tree_of c.in_ok-run_classes-in-Some.field-0) c.in_ok-push-in-Some.ensures.items refl)
          (c.loop-from.invariant.added member stretch);
    }

pub loop-from-preserved : goal.loop-from-preserved
loop-from-preserved c =
    let above = c.loop-from.invariant.above in
    record {
      above = omega (arith, c.min-from.ensures);
      below = omega (arith, c.min-from.ensures);
      added = λ member stretch.
          stretch-gap member c.args.first c.args.last (max c.args.first ascii_end) c.loop-from.from c.min-from.result
          (map tree_of c.args.parts.now.items) (map tree_of c.loop-from.parts.items) stretch (omega arith) c.loop-from-test.true
          c.in-None.ensures.0 c.in-None.ensures.1 (omega (arith, c.min-from.ensures)) (c.loop-from.invariant.added member stretch);
    }
