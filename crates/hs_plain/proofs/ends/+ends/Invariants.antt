use Rattle.std.proofs.Common.{map, take}
use Rattle.hs_base.specs.Spans.{Spans, Copies, CatSpans, AltSpans}
use Rattle.hs_expr.specs.Meaning.{trees_of, tree_of}
use Rattle.hs_plain.specs.OffsetSets.{AreEnds}
use Rattle.hs_plain.specs.Repeats.{UpTo}
use Rattle.hs_plain.proofs.RepeatLemmas.{IsClosedBelow}
use Rattle.hs_plain.proofs.ends.+ends.Given as goal

abbrev pub invariant-cat_ends-loop-i : goal.invariant-cat_ends-loop-i
invariant-cat_ends-loop-i l = AreEnds (CatSpans l.stream l.ended (trees_of (map tree_of (take l.i l.items)))) l.starts l.ends

abbrev pub invariant-alt_ends-loop-i : goal.invariant-alt_ends-loop-i
invariant-alt_ends-loop-i l = AreEnds (AltSpans l.stream l.ended (trees_of (map tree_of (take l.i l.items)))) l.starts l.all

abbrev pub invariant-copies_ends-loop-copy : goal.invariant-copies_ends-loop-copy
invariant-copies_ends-loop-copy l = AreEnds (Copies (Spans l.stream l.ended (tree_of l.body)) l._copy) l.starts l.ends

abbrev pub invariant-up_to_ends-loop-copy : goal.invariant-up_to_ends-loop-copy
invariant-up_to_ends-loop-copy l = record {
  ends : AreEnds (Copies (Spans l.stream l.ended (tree_of l.body)) l._copy) l.starts l.ends;
  all : AreEnds (UpTo (Spans l.stream l.ended (tree_of l.body)) l._copy) l.starts l.all;
}

abbrev pub invariant-any_number_ends-loop-from : goal.invariant-any_number_ends-loop-from
invariant-any_number_ends-loop-from l = IsClosedBelow (Spans l.stream l.ended (tree_of l.body)) l.starts l.all l.from
