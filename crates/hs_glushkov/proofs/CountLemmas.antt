-- The positions of an expression, written out and counted in its tree.
use Rattle.std.proofs.Common.{◌≡◌, ℕ, zero, suc, ◌+◌, ◌-◌, ◌*◌, ◌≤◌, max, Option, Some, None, IfSome, ◌∷◌, refl, sym, ap, ◌∙◌, arith}
use Rattle.std.specs.Prelude.{sum}
use Rattle.std.proofs.lemmas.List.Sums.{sum_by-cons}
use Rattle.hs_base.specs.Trees as tree
use Rattle.hs_base.specs.Trees.{Tree, Trees}
use Rattle.hs_base.specs.WrittenOut.{Core, fail, empty, cat, alt, plus, copies_then, up_to, repeat_of, write_out, cat_from, alt_from, IsPlain, ArePlain, count}
use Rattle.hs_expr.specs.Counts.{positions, position_counts, written_copies}

count-copies : (n : ℕ) (a b : Core) → count (copies_then n a b) ≡ n * count a + count b
count-copies zero a b = omega arith
count-copies (suc n) a b = ap (λ k. count a + k) (count-copies n a b) ∙ omega arith

count-up_to : (n : ℕ) (a : Core) → count (up_to n a) ≡ n * count a
count-up_to zero a = omega arith
count-up_to (suc n) a = ap (λ k. count a + k + 0) (count-up_to n a) ∙ omega arith

spread : (c l k m : ℕ) → m ≡ l + k → l * c + k * c ≡ c * m
spread c l k m e =
    let wide : l * c + k * c ≡ c * (l + k) = omega arith in
    wide ∙ ap (λ x. c * x) (sym e)

max-suc : (n : ℕ) → max (suc n) 1 ≡ suc n
max-suc n = omega arith

pub count-repeat : (least : ℕ) (greatest : Option ℕ) (a : Core) → IfSome greatest (λ m. least ≤ m) → count (repeat_of least greatest a) ≡ count a * written_copies least greatest
count-repeat zero None a ordered = omega arith
count-repeat (suc least) None a ordered =
    let copies : least * count a + count a ≡ count a * suc least = omega arith in
    count-copies least a (plus a) ∙ (copies ∙ ap (λ k. count a * k) (sym (max-suc least)))
count-repeat least (Some most) a ordered =
    count-copies least a (up_to (most - least) a)
    ∙ (ap (λ k. least * count a + k) (count-up_to (most - least) a) ∙ spread (count a) least (most - least) most (omega arith))

mutual
  pub count-written : (t : Tree) → IsPlain t → count (write_out t) ≡ positions t
  count-written tree.empty plain = refl
  count-written (tree.class set) plain = refl
  count-written (tree.points ranges) plain = absurd plain
  count-written (tree.assert assertion) plain = refl
  count-written (tree.cat items) plain = count-cat items empty plain ∙ omega arith
  count-written (tree.alt items) plain = count-alt items fail plain ∙ omega arith
  count-written (tree.repeat body least greatest) plain =
      count-repeat least greatest (write_out body) plain.1 ∙ ap (λ k. k * written_copies least greatest) (count-written body plain.0)

  count-cat : (items : Trees) (before : Core) → ArePlain items → count (cat_from before items) ≡ count before + sum (position_counts items)
  count-cat tree.none before plain = omega arith
  count-cat (tree.more item items) before plain =
      let one : count (write_out item) ≡ positions item = count-written item plain.0 in
      let total : sum (positions item ∷ position_counts items) ≡ positions item + sum (position_counts items) = sum_by-cons (λ n. n) (positions item) (position_counts items) in
      count-cat items (cat before (write_out item)) plain.1 ∙ omega (arith, one, total)

  count-alt : (items : Trees) (before : Core) → ArePlain items → count (alt_from before items) ≡ count before + sum (position_counts items)
  count-alt tree.none before plain = omega arith
  count-alt (tree.more item items) before plain =
      let one : count (write_out item) ≡ positions item = count-written item plain.0 in
      let total : sum (positions item ∷ position_counts items) ≡ positions item + sum (position_counts items) = sum_by-cons (λ n. n) (positions item) (position_counts items) in
      count-alt items (alt before (write_out item)) plain.1 ∙ omega (arith, one, total)
