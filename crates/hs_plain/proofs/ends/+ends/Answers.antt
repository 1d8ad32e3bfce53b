use Rattle.std.proofs.Common.{◌≡◌, ℕ, ◌+◌, ◌-◌, ◌≤◌, false, Some, None, IfOk, slice_index_or, sym, ap, subst, ◌∙◌, arith}
use Rattle.hs_base.specs.Trees.{repeat}
use Rattle.hs_base.specs.Spans.{Spans, Copies}
use Rattle.hs_base.proofs.SpanLemmas.{span-order}
use Rattle.hs_expr.specs.Meaning.{tree_of}
use Rattle.hs_plain.specs.declared.offsets.Offsets.{Offsets}
use Rattle.hs_plain.specs.OffsetSets.{AreEnds}
use Rattle.hs_plain.specs.Repeats.{UpTo, AnyNumber, RepeatSpans}
use Rattle.hs_plain.proofs.OffsetLemmas.{ends-same, if_ok-map}
use Rattle.hs_plain.proofs.RepeatLemmas.{IsClosedBelow, ends-copies_more, ends-copies_enough, ends-up_to_more, ends-up_to_enough, closed-member, closed-other, ends-any_number, ends-at_least, ends-between}
use Rattle.hs_plain.proofs.CatLemmas.{cat_ends-more, alt_ends-more}
use Rattle.hs_plain.proofs.TreeEquations.{tree-Repeat}
use Rattle.hs_plain.proofs.ends.+ends.Goals as goal
use Rattle.hs_plain.proofs.ends.+ends.Goals.{any_number_ends-then-contains+in_ok-start+in_ok-ends, any_number_ends-else-contains}

pub cat_ends-loop-i-preserved : goal.cat_ends-loop-i-preserved
cat_ends-loop-i-preserved t c =
    cat_ends-more c.args.stream.now c.args.ended c.args.items.now c.loop-i.i c.index-items-i.result c.args.starts.now c.loop-i.ends c.in_ok-ends-2.ends c.loop-i-test.true c.index-items-i.is c.loop-i.invariant c.in_ok-ends-2.ensures

pub alt_ends-loop-i-preserved : goal.alt_ends-loop-i-preserved
alt_ends-loop-i-preserved t c =
    alt_ends-more c.args.stream.now c.args.ended c.args.items.now c.loop-i.i c.index-items-i.result c.args.starts.now c.loop-i.all c.in_ok-ends.ends c.add.new.self c.loop-i-test.true c.index-items-i.is c.loop-i.invariant c.in_ok-ends.ensures c.add.ensures.size c.add.ensures.members

-- a set that is the same as what it leads to
stays : (R : ℕ → ℕ → Type 0) (s t : Offsets) → t.marks.items ≡ s.marks.items → AreEnds R s t → AreEnds R s s
stays R s t same ends = ends-same R s t s (sym ends.alike) (λ j. ap (λ marks. slice_index_or marks j false) (sym same)) ends

pub copies_ends-returns-then-is_same : goal.copies_ends-returns-then-is_same
copies_ends-returns-then-is_same t c =
    let R : ℕ → ℕ → Type 0 = Spans c.args.stream.now c.args.ended (tree_of c.args.body.now) in
    let ends = c.loop-copy.ends in
    let next = c.in_ok-next.next in
    let same : next.marks.items ≡ ends.marks.items = c.is_same.ensures.0 c.if-is_same.true in
    let few : c.loop-copy._copy ≤ c.args.count = omega arith in
    ends-same (Copies R c.args.count) c.args.starts.now ends next c.in_ok-next.ensures.alike (λ j. ap (λ marks. slice_index_or marks j false) same)
    (ends-copies_enough R c.loop-copy._copy c.args.count c.args.starts.now ends few c.loop-copy.invariant (stays R ends next same c.in_ok-next.ensures))

pub copies_ends-loop-copy-preserved : goal.copies_ends-loop-copy-preserved
copies_ends-loop-copy-preserved t c =
    ends-copies_more (Spans c.args.stream.now c.args.ended (tree_of c.args.body.now)) c.loop-copy._copy c.args.starts.now c.loop-copy.ends c.in_ok-next.next c.loop-copy.invariant c.in_ok-next.ensures

pub up_to_ends-returns-then-is_same : goal.up_to_ends-returns-then-is_same
up_to_ends-returns-then-is_same t c =
    let R : ℕ → ℕ → Type 0 = Spans c.args.stream.now c.args.ended (tree_of c.args.body.now) in
    let ends = c.loop-copy.ends in
    let next = c.in_ok-next.next in
    let same : next.marks.items ≡ ends.marks.items = c.is_same.ensures.0 c.if-is_same.true in
    let few : c.loop-copy._copy ≤ c.args.count = omega arith in
    ends-up_to_enough R c.loop-copy._copy c.args.count c.args.starts.now ends c.loop-copy.all few c.loop-copy.invariant.ends (stays R ends next same c.in_ok-next.ensures) c.loop-copy.invariant.all

pub up_to_ends-loop-copy-preserved : goal.up_to_ends-loop-copy-preserved
up_to_ends-loop-copy-preserved t c =
    let R : ℕ → ℕ → Type 0 = Spans c.args.stream.now c.args.ended (tree_of c.args.body.now) in
    let one_more : AreEnds (Copies R (c.loop-copy._copy + 1)) c.args.starts.now c.in_ok-next.next =
    ends-copies_more R c.loop-copy._copy c.args.starts.now c.loop-copy.ends c.in_ok-next.next c.loop-copy.invariant.ends c.in_ok-next.ensures in
    record {
      ends = one_more;
      all = ends-up_to_more R c.loop-copy._copy c.args.starts.now c.loop-copy.all c.in_ok-next.next c.add.new.self c.loop-copy.invariant.all one_more c.add.ensures.size c.add.ensures.members;
    }

pub up_to_ends-returns : goal.up_to_ends-returns
up_to_ends-returns t c =
    let whole : c.loop-copy._copy ≡ c.args.count = omega arith in
    subst (λ n. AreEnds (UpTo (Spans c.args.stream.now c.args.ended (tree_of c.args.body.now)) n) c.args.starts.now c.loop-copy.all) whole c.loop-copy.invariant.all

pub any_number_ends-loop-from-preserved : goal.any_number_ends-loop-from-preserved
any_number_ends-loop-from-preserved t c =
    let R : ℕ → ℕ → Type 0 = Spans c.args.stream.now c.args.ended (tree_of c.args.body.now) in
    let n = c.loop-from.from in
    let P : Offsets → Type 0 = λ all. IsClosedBelow R c.args.starts.now all (n + 1) in
    elim c.if-contains.branch [
      | any_number_ends-then-contains+in_ok-start+in_ok-ends w ↦
          subst P (sym w.all-is)
          (closed-member R (span-order c.args.stream.now c.args.ended (tree_of c.args.body.now)) c.args.starts.now c.loop-from.all w.in_ok-start.start w.in_ok-ends.ends w.add.new.self n
          (sym c.contains.ensures ∙ w.if-contains.true) w.in_ok-start.ensures.members w.in_ok-ends.ensures w.add.ensures.size w.add.ensures.members c.loop-from.invariant)
      | any_number_ends-else-contains w ↦
          subst P (sym w.all-is)
          (closed-other R c.args.starts.now c.loop-from.all n (sym c.contains.ensures ∙ w.if-contains.false) c.loop-from.invariant)
    ]

pub any_number_ends-returns : goal.any_number_ends-returns
any_number_ends-returns t c =
    ends-any_number (Spans c.args.stream.now c.args.ended (tree_of c.args.body.now)) c.args.starts.now c.loop-from.all c.loop-from.from (omega (arith, c.room-from-end.ensures)) c.loop-from.invariant

pub repeat_ends-returns-in-None : goal.repeat_ends-returns-in-None
repeat_ends-returns-in-None t c =
    let R : ℕ → ℕ → Type 0 = Spans c.args.stream.now c.args.ended (tree_of c.args.body.now) in
    let starts = c.args.starts.now in
    subst (λ greatest. IfOk c.any_number_ends.result (λ ends. AreEnds (RepeatSpans R c.args.least greatest) starts ends)) (sym c.in-None.is)
    (if_ok-map (AreEnds (AnyNumber R) c.in_ok-first.first) (AreEnds (RepeatSpans R c.args.least None) starts) c.any_number_ends.result
    (λ ends is. ends-at_least R c.args.least starts c.in_ok-first.first ends c.in_ok-first.ensures is) c.any_number_ends.ensures)

pub repeat_ends-returns-in-Some : goal.repeat_ends-returns-in-Some
repeat_ends-returns-in-Some t c =
    let R : ℕ → ℕ → Type 0 = Spans c.args.stream.now c.args.ended (tree_of c.args.body.now) in
    let starts = c.args.starts.now in
    let greatest = c.in-Some.greatest in
    subst (λ g. IfOk c.up_to_ends.result (λ ends. AreEnds (RepeatSpans R c.args.least g) starts ends)) (sym c.in-Some.is)
    (if_ok-map (AreEnds (UpTo R (greatest - c.args.least)) c.in_ok-first.first) (AreEnds (RepeatSpans R c.args.least (Some greatest)) starts) c.up_to_ends.result
    (λ ends is. ends-between R c.args.least greatest starts c.in_ok-first.first ends c.if-least-greatest.true c.in_ok-first.ensures is) c.up_to_ends.ensures)

pub ends_from-returns-in-Repeat : goal.ends_from-returns-in-Repeat
ends_from-returns-in-Repeat t c =
    let w = c.args.stream.now in
    let ended = c.args.ended in
    let starts = c.args.starts.now in
    let r = c.in-Repeat in
    let e : tree_of c.args.expr.now ≡ repeat (tree_of r.body.value) r.least r.greatest = ap tree_of r.is ∙ tree-Repeat r.body r.least r.greatest in
    subst (λ tree. IfOk c.repeat_ends.result (λ ends. AreEnds (Spans w ended tree) starts ends)) (sym e)
    (subst (λ body. IfOk c.repeat_ends.result (λ ends. AreEnds (RepeatSpans (Spans w ended (tree_of body)) r.least r.greatest) starts ends)) c.deref-in-Repeat.ensures c.repeat_ends.ensures)
