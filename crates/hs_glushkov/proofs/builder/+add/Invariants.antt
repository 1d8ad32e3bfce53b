use Rattle.std.proofs.Common.{◌≡◌, ℕ, ◌+◌, ◌*◌, map, drop, vec_len}
use Rattle.hs_base.specs.ContextSets.{has_context}
use Rattle.hs_base.specs.WrittenOut.{Core, ArePlain, empty, fail, count, write_out, cat_from, alt_from}
use Rattle.hs_expr.specs.Meaning.{tree_of, trees_of}
use Rattle.hs_glushkov.specs.BuiltParts.{table_of}
use Rattle.hs_glushkov.specs.Parts.{Table, IsAdded, IsClear, IsRow}
use Rattle.hs_glushkov.proofs.builder.+add.Given as goal

abbrev pub invariant-add_cat-loop-item : goal.invariant-add_cat-loop-item
invariant-add_cat-loop-item l = record {
  size : vec_len l.parts.sets ≡ vec_len l.initial.parts.sets;
  plain : ArePlain (trees_of (map tree_of (drop l.item-index l.items)));
  so_far : (r : Core)
      × (cat_from r (trees_of (map tree_of (drop l.item-index l.items))) ≡ cat_from empty (trees_of (map tree_of l.items)))
      × (l.parts.filled ≡ l.initial.parts.filled + count r)
      × IsAdded (table_of l.initial.parts) (table_of l.parts) l.initial.parts.filled r (has_context l.null);
}

abbrev pub invariant-add_alt-loop-item : goal.invariant-add_alt-loop-item
invariant-add_alt-loop-item l = record {
  size : vec_len l.parts.sets ≡ vec_len l.initial.parts.sets;
  plain : ArePlain (trees_of (map tree_of (drop l.item-index l.items)));
  so_far : (r : Core)
      × (alt_from r (trees_of (map tree_of (drop l.item-index l.items))) ≡ alt_from fail (trees_of (map tree_of l.items)))
      × (l.parts.filled ≡ l.initial.parts.filled + count r)
      × IsAdded (table_of l.initial.parts) (table_of l.parts) l.initial.parts.filled r (has_context l.null);
}

abbrev pub invariant-add_copies-loop-copy : goal.invariant-add_copies-loop-copy
invariant-add_copies-loop-copy l = record {
  size : vec_len l.parts.sets ≡ vec_len l.initial.parts.sets;
  filled : l.parts.filled ≡ l.initial.parts.filled + l._copy * count (write_out (tree_of l.body));
  clear : IsClear (table_of l.parts) l.parts.filled;
  row : (old : Table) (n k : ℕ) → IsRow old (table_of l.initial.parts) n (write_out (tree_of l.body)) k empty l.initial.parts.filled →
      IsRow old (table_of l.parts) n (write_out (tree_of l.body)) (k + l._copy) empty l.parts.filled;
}
