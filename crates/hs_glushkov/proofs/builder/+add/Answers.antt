use Rattle.std.proofs.Common.{rules, ◌≡◌, ℕ, ◌+◌, ◌-◌, ◌*◌, ◌≤◌, map, drop, sym, ap, subst, ◌∙◌, arith}
use Rattle.hs_base.specs.ContextSets.{has_context}
use Rattle.hs_base.specs.Trees.{Trees}
use Rattle.hs_base.specs.WrittenOut.{Core, ArePlain, cat, alt, empty, fail, count, write_out, cat_from, alt_from, repeat_of}
use Rattle.hs_expr.specs.Meaning.{tree_of, trees_of}
use Rattle.hs_expr.specs.Counts.{written_copies}
use Rattle.hs_expr.specs.declared.expr.Expr.{the_lemmas}
use Rattle.hs_expr.proofs.TreeLemmas.{trees_of-drop}
use Rattle.hs_glushkov.specs.BuiltParts.{table_of}
use Rattle.hs_glushkov.specs.Parts.{Table, IsClear, IsRow, null_in_copies}
use Rattle.hs_glushkov.proofs.CountLemmas.{count-repeat}
use Rattle.hs_glushkov.proofs.RowLemmas.{added-cat, added-alt, added-other, row-none, row-more}
use Rattle.hs_glushkov.proofs.BuildLemmas.{count-cat_from, count-alt_from, body-within, copies-whole, null-repeat}
use Rattle.hs_glushkov.proofs.builder.+add.Goals as goal

pub add_alt-add-requires : goal.add_alt-add-requires
add_alt-add-requires t c =
    let from = trees_of-drop c.args.items.now c.loop-item.item-index c.item-item.result c.loop-item-test.true c.item-item.is in
    let rest : Trees = trees_of (map tree_of (drop (c.loop-item.item-index + 1) c.args.items.now)) in
    let plain = subst ArePlain from c.loop-item.invariant.plain in
    let (r, same, filled, added) = c.loop-item.invariant.so_far in
    let item : Core = write_out (tree_of c.item-item.result) in
    let whole : alt_from (alt r item) rest ≡ alt_from fail (trees_of (map tree_of c.args.items.now)) = subst (λ z. alt_from r z ≡ alt_from fail (trees_of (map tree_of c.args.items.now))) from same in
    let grows : count r + count item ≤ count (alt_from (alt r item) rest) = count-alt_from rest (alt r item) in
    (search (rules, the_lemmas), (subst (IsClear (table_of c.loop-item.parts)) (sym filled) added.clear, (plain.0, omega (arith, grows, ap count whole, filled, c.requires.room, c.loop-item.invariant.size))))

pub add_alt-loop-item-preserved : goal.add_alt-loop-item-preserved
add_alt-loop-item-preserved t c =
    let from = trees_of-drop c.args.items.now c.loop-item.item-index c.item-item.result c.loop-item-test.true c.item-item.is in
    let plain = subst ArePlain from c.loop-item.invariant.plain in
    let (r, same, filled, added) = c.loop-item.invariant.so_far in
    let item : Core = write_out (tree_of c.item-item.result) in
    record {
      size = c.add.ensures.size ∙ c.loop-item.invariant.size;
      plain = plain.1;
      so_far = (
        alt r item,
        subst (λ z. alt_from r z ≡ alt_from fail (trees_of (map tree_of c.args.items.now))) from same,
        omega (arith, filled, c.add.ensures.filled),
        added-alt (table_of c.args.parts.now) (table_of c.loop-item.parts) (table_of c.add.new.parts) c.args.parts.now.filled c.loop-item.parts.filled r item
            (has_context c.loop-item.null) (has_context c.add.result) (has_context c.union-null.result) filled added c.add.ensures.added c.union-null.ensures,
      );
    }

pub add_cat-add-last-requires : goal.add_cat-add-last-requires
add_cat-add-last-requires t c =
    let from = trees_of-drop c.args.items.now c.loop-item.item-index c.item-item.result c.loop-item-test.true c.item-item.is in
    let rest : Trees = trees_of (map tree_of (drop (c.loop-item.item-index + 1) c.args.items.now)) in
    let plain = subst ArePlain from c.loop-item.invariant.plain in
    let (r, same, filled, added) = c.loop-item.invariant.so_far in
    let item : Core = write_out (tree_of c.item-item.result) in
    let whole : cat_from (cat r item) rest ≡ cat_from empty (trees_of (map tree_of c.args.items.now)) = subst (λ z. cat_from r z ≡ cat_from empty (trees_of (map tree_of c.args.items.now))) from same in
    let grows : count r + count item ≤ count (cat_from (cat r item) rest) = count-cat_from rest (cat r item) in
    (search (rules, the_lemmas), (subst (IsClear (table_of c.loop-item.parts)) (sym filled) added.clear, (plain.0, omega (arith, grows, ap count whole, filled, c.requires.room, c.loop-item.invariant.size))))

pub add_cat-loop-item-preserved : goal.add_cat-loop-item-preserved
add_cat-loop-item-preserved t c =
    let from = trees_of-drop c.args.items.now c.loop-item.item-index c.item-item.result c.loop-item-test.true c.item-item.is in
    let plain = subst ArePlain from c.loop-item.invariant.plain in
    let (r, same, filled, added) = c.loop-item.invariant.so_far in
    let item : Core = write_out (tree_of c.item-item.result) in
    record {
      size = c.join.ensures.size ∙ (c.add-last.ensures.size ∙ c.loop-item.invariant.size);
      plain = plain.1;
      so_far = (
        cat r item,
        subst (λ z. cat_from r z ≡ cat_from empty (trees_of (map tree_of c.args.items.now))) from same,
        omega (arith, filled, c.add-last.ensures.filled, c.join.ensures.filled),
        added-cat (table_of c.args.parts.now) (table_of c.loop-item.parts) (table_of c.add-last.new.parts) (table_of c.join.new.self) c.args.parts.now.filled c.loop-item.parts.filled c.add-last.new.parts.filled r item
            (has_context c.loop-item.null) (has_context c.add-last.result) (has_context c.intersection-null.result) filled c.add-last.ensures.filled added c.add-last.ensures.added c.join.ensures.joined c.intersection-null.ensures,
      );
    }

pub add_copies-loop-copy-preserved : goal.add_copies-loop-copy-preserved
add_copies-loop-copy-preserved t c =
    let a : Core = write_out (tree_of c.args.body.now) in
    let wide : (c.loop-copy._copy + 1) * count a ≡ c.loop-copy._copy * count a + count a = omega arith in
    record {
      size = c.add.ensures.size ∙ c.loop-copy.invariant.size;
      filled = omega (arith, c.add.ensures.filled, c.loop-copy.invariant.filled, wide);
      clear = subst (IsClear (table_of c.add.new.parts)) (sym c.add.ensures.filled) c.add.ensures.added.clear;
      row = λ old n k row.
          let more : (k + c.loop-copy._copy) + 1 ≡ k + (c.loop-copy._copy + 1) = omega arith in
          subst (λ z. IsRow old (table_of c.add.new.parts) n a z empty c.add.new.parts.filled) more
          (row-more old (table_of c.loop-copy.parts) (table_of c.add.new.parts) n c.loop-copy.parts.filled c.add.new.parts.filled (k + c.loop-copy._copy) a (has_context c.add.result) c.add.ensures.filled
          (c.loop-copy.invariant.row old n k row) c.add.ensures.added);
    }

pub add_copies-returns-clause-row : goal.add_copies-returns-clause-row
add_copies-returns-clause-row t c old n k row =
    let last : c.loop-copy._copy ≡ c.args.copies = omega arith in
    subst (λ z. IsRow old (table_of c.loop-copy.parts) n (write_out (tree_of c.args.body.now)) (k + z) empty c.loop-copy.parts.filled) last (c.loop-copy.invariant.row old n k row)

pub add_repeat-add-null-requires : goal.add_repeat-add-null-requires
add_repeat-add-null-requires t c =
    let a : Core = write_out (tree_of c.args.body.now) in
    let some : written_copies c.args.least c.args.greatest ≡ 0 → ⊥ = λ none. c.if-copies-eq0.false (c.written_copies-copies.ensures ∙ none) in
    let short : count a ≤ count (repeat_of c.args.least c.args.greatest a) = body-within c.args.least c.args.greatest a c.requires.ordered some in
    (search (rules, the_lemmas), (c.requires.clear, (c.requires.plain, omega (arith, short, c.requires.room))))

pub add_repeat-returns-then-width-eq0-clause-filled : goal.add_repeat-returns-then-width-eq0-clause-filled
add_repeat-returns-then-width-eq0-clause-filled t c =
    let a : Core = write_out (tree_of c.args.body.now) in
    let zero : count a ≡ 0 = omega (arith, c.add-null.ensures.filled, c.if-width-eq0.true) in
    let none : count (repeat_of c.args.least c.args.greatest a) ≡ 0 = count-repeat c.args.least c.args.greatest a c.requires.ordered ∙ (ap (λ z. z * written_copies c.args.least c.args.greatest) zero ∙ omega arith) in
    omega (arith, c.add-null.ensures.filled, zero, none)

pub add_repeat-returns-then-width-eq0-clause-added : goal.add_repeat-returns-then-width-eq0-clause-added
add_repeat-returns-then-width-eq0-clause-added t c =
    let a : Core = write_out (tree_of c.args.body.now) in
    let zero : count a ≡ 0 = omega (arith, c.add-null.ensures.filled, c.if-width-eq0.true) in
    let none : count (repeat_of c.args.least c.args.greatest a) ≡ 0 = count-repeat c.args.least c.args.greatest a c.requires.ordered ∙ (ap (λ z. z * written_copies c.args.least c.args.greatest) zero ∙ omega arith) in
    added-other (table_of c.args.parts.now) (table_of c.add-null.new.parts) c.args.parts.now.filled a (repeat_of c.args.least c.args.greatest a) (has_context c.add-null.result) (has_context c.null_of_copies.result) zero none
    (λ h. c.null_of_copies.ensures h ∙ (ap (null_in_copies c.args.least) (c.add-null.ensures.added.null h) ∙ null-repeat c.args.least c.args.greatest a h)) c.add-null.ensures.added

pub add_repeat-add_copies-requires : goal.add_repeat-add_copies-requires
add_repeat-add_copies-requires t c =
    let a : Core = write_out (tree_of c.args.body.now) in
    let k : ℕ = c.written_copies-copies.result in
    let all : count a + (k - 1) * count a ≡ count a * k = copies-whole k (count a) c.if-copies-eq0.false in
    let whole : count (repeat_of c.args.least c.args.greatest a) ≡ count a * k = count-repeat c.args.least c.args.greatest a c.requires.ordered ∙ ap (λ z. count a * z) (sym c.written_copies-copies.ensures) in (
      search (rules, the_lemmas),
      (subst (IsClear (table_of c.add-null.new.parts)) (sym c.add-null.ensures.filled) c.add-null.ensures.added.clear, (c.requires.plain, omega (arith, all, whole, c.add-null.ensures.filled, c.add-null.ensures.size, c.requires.room))),
    )

pub add_repeat-returns-clause-filled : goal.add_repeat-returns-clause-filled
add_repeat-returns-clause-filled t c =
    let a : Core = write_out (tree_of c.args.body.now) in
    let k : ℕ = c.written_copies-copies.result in
    let all : count a + (k - 1) * count a ≡ count a * k = copies-whole k (count a) c.if-copies-eq0.false in
    let whole : count (repeat_of c.args.least c.args.greatest a) ≡ count a * k = count-repeat c.args.least c.args.greatest a c.requires.ordered ∙ ap (λ z. count a * z) (sym c.written_copies-copies.ensures) in
    omega (arith, all, whole, c.add-null.ensures.filled, c.add_copies.ensures.filled, c.repeat.ensures.filled)

pub add_repeat-returns-clause-added : goal.add_repeat-returns-clause-added
add_repeat-returns-clause-added t c =
    let a : Core = write_out (tree_of c.args.body.now) in
    let old : Table = table_of c.args.parts.now in
    let n : ℕ = c.args.parts.now.filled in
    let k : ℕ = c.written_copies-copies.result in
    let copies : 1 + (k - 1) ≡ written_copies c.args.least c.args.greatest = omega (arith, c.written_copies-copies.ensures, c.if-copies-eq0.false) in
    let first : IsRow old (table_of c.add-null.new.parts) n a 1 empty c.add-null.new.parts.filled =
    row-more old old (table_of c.add-null.new.parts) n n c.add-null.new.parts.filled 0 a (has_context c.add-null.result) c.add-null.ensures.filled (row-none old n a c.requires.clear) c.add-null.ensures.added in
    c.repeat.ensures.added old a (omega (arith, c.add-null.ensures.filled)) c.add-null.ensures.added.null
    (subst (λ z. IsRow old (table_of c.add_copies.new.parts) n a z empty c.add_copies.new.parts.filled) copies (c.add_copies.ensures.row old n 1 first))
