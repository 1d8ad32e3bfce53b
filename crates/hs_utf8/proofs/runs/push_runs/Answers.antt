use Rattle.std.proofs.Common.{◌≡◌, ◌<◌, ◌≤◌, List, length, map, sym, ap, subst, arith}
use Rattle.std.specs.Prelude.{slice_index_or}
use Rattle.regex_class.specs.Ranges.{Range}
use Rattle.regex_class.proofs.RangesLemmas.{rises_from-at}
use Rattle.hs_expr.specs.Meaning.{tree_of}
use Rattle.hs_utf8.proofs.RangeLemmas.{ranges-more, ranges-all}
use Rattle.hs_utf8.proofs.runs.push_runs.Goals as goal

pub push_range-requires-clause-order : goal.push_range-requires-clause-order
push_range-requires-clause-order c =
    let rs = c.args.class.now.ranges.items in
    let k = c.loop-range.range-index in
    let same : c.deref-range-items.result.now ≡ rs = c.deref-range-items.ensures.value in
    let within : k < length rs = omega (arith, c.loop-range-test.true, ap length same) in
    subst (λ (ss : List Range). (slice_index_or ss k (0, 0)).0 ≤ (slice_index_or ss k (0, 0)).1) (sym same)
    (rises_from-at 0 rs k c.args.class.now.canonical within).1

pub push_range-requires-clause-bounded : goal.push_range-requires-clause-bounded
push_range-requires-clause-bounded c =
    let rs = c.args.class.now.ranges.items in
    let k = c.loop-range.range-index in
    let same : c.deref-range-items.result.now ≡ rs = c.deref-range-items.ensures.value in
    let within : k < length rs = omega (arith, c.loop-range-test.true, ap length same) in
    subst (λ (ss : List Range). (slice_index_or ss k (0, 0)).1 ≤ 0x10FFFF) (sym same)
    (rises_from-at 0 rs k c.args.class.now.canonical within).2

pub loop-range-preserved : goal.loop-range-preserved
loop-range-preserved c =
    let rs = c.args.class.now.ranges.items in
    let k = c.loop-range.range-index in
    let same : c.deref-range-items.result.now ≡ rs = c.deref-range-items.ensures.value in
    let within : k < length rs = omega (arith, c.loop-range-test.true, ap length same) in
    ranges-more rs k (slice_index_or c.deref-range-items.result.now k (0, 0)) (map tree_of c.args.parts.now.items)
    (map tree_of c.loop-range.parts.items) (map tree_of c.push_range.new.parts.items) c.args.class.now.canonical within
    (ap (λ (ss : List Range). slice_index_or ss k (0, 0)) (sym same)) c.loop-range.invariant c.in_ok-push_range.ensures

pub returns : goal.returns
returns c =
    let rs = c.args.class.now.ranges.items in
    let same : c.deref-range-items.result.now ≡ rs = c.deref-range-items.ensures.value in
    ranges-all rs c.loop-range.range-index (map tree_of c.args.parts.now.items) (map tree_of c.loop-range.parts.items)
    (omega (arith, c.loop-range-test.false, ap length same)) c.loop-range.invariant
