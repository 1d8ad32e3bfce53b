use Rattle.std.proofs.Common.{◌↔◌, true, [], map, drop}
use Rattle.hs_base.specs.Spans.{CatSpans, AltSpans}
use Rattle.hs_expr.specs.Meaning.{tree_of, trees_of}
use Rattle.hs_expr.proofs.empty_span.+matches_empty.Given as goal

-- the items so far match the empty text, so that all do exactly where the others do
abbrev pub invariant-all_match_empty-loop-item : goal.invariant-all_match_empty-loop-item
invariant-all_match_empty-loop-item l =
    CatSpans [] true (trees_of (map tree_of l.items)) 0 0
    ↔ CatSpans [] true (trees_of (map tree_of (drop l.item-index l.items))) 0 0

-- none of the alternatives so far does, so that one does exactly where one of the others does
abbrev pub invariant-any_matches_empty-loop-item : goal.invariant-any_matches_empty-loop-item
invariant-any_matches_empty-loop-item l =
    AltSpans [] true (trees_of (map tree_of l.items)) 0 0
    ↔ AltSpans [] true (trees_of (map tree_of (drop l.item-index l.items))) 0 0
