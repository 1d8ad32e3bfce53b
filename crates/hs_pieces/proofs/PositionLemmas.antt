-- No piece has more positions than the expression.
use Rattle.std.proofs.Common.{◌≡◌, ℕ, ◌*◌, ◌≤◌, Bool, true, false, List, [], ◌∷◌, map, sum, Option, if◌then◌else◌, refl, sym, ap, ◌∙◌, subst, arith}
use Rattle.std.proofs.lemmas.List.{map-append}
use Rattle.hs_base.specs.Lists.{Each}
use Rattle.hs_base.specs.Trees.{Tree, Trees, empty, class, points, assert, cat, alt, repeat, none, more, IsProper, AreProper}
use Rattle.hs_base.specs.Items.{items_of, items_of_all, is_once}
use Rattle.hs_base.specs.Chains.{Part, literal, ordinary, long, piece_of, pieces_of, alternatives_of, alternatives_of_all, chains_of}
use Rattle.hs_base.proofs.ListLemmas.{each-append}
use Rattle.hs_expr.specs.Counts.{positions, position_counts}
use Rattle.hs_pieces.specs.Laws.{HasPositions}
use Rattle.hs_pieces.proofs.FlatLemmas.{items_in, items_within, parts_of, parts_of-same}
use Rattle.hs_expr.specs.Waiting.{row}
use Rattle.hs_expr.proofs.ItemLemmas.{items-proper, once_from}
use Rattle.hs_expr.proofs.RowLemmas.{row-append, one-row, more-positions}

repeat-row : (body : Tree) (least : ℕ) (greatest : Option ℕ) (once : Bool) → is_once least greatest ≡ once →
    row (items_of body) ≡ positions body →
    row (if once then items_of body else repeat body least greatest ∷ []) ≡ positions (repeat body least greatest)
repeat-row body least greatest true is inside =
    let single : positions body ≡ positions body * 1 = omega arith in
    inside ∙ single ∙ ap (λ most. positions (repeat body least most)) (sym (once_from least greatest is).1)
repeat-row body least greatest false is inside = one-row (repeat body least greatest)

mutual
  items-row : (t : Tree) → row (items_of t) ≡ positions t
  items-row empty = refl
  items-row (class set) = one-row (class set)
  items-row (points ranges) = one-row (points ranges)
  items-row (assert assertion) = one-row (assert assertion)
  items-row (cat items) = all_items-row items
  items-row (alt items) = one-row (alt items)
  items-row (repeat body least greatest) = repeat-row body least greatest (is_once least greatest) refl (items-row body)

  all_items-row : (items : Trees) → row (items_of_all items) ≡ sum (position_counts items)
  all_items-row none = refl
  all_items-row (more item items) =
      let seam = row-append (items_of item) (items_of_all items) in
      let first = items-row item in
      let rest = all_items-row items in
      let all = more-positions item items in
      omega (arith, seam, first, rest, all)

piece-within : (part : Part) (n : ℕ) → row (items_in part) ≤ n → HasPositions n (piece_of part)
piece-within (literal xs) n few = tt
piece-within (ordinary ts) n few = few
piece-within (long set least greatest) n few = tt

pieces-within : (parts : List Part) (n : ℕ) → row (items_within parts) ≤ n → Each (HasPositions n) (map piece_of parts)
pieces-within [] n few = tt
pieces-within (part ∷ parts) n few =
    let seam = row-append (items_in part) (items_within parts) in
    (piece-within part n (omega (arith, seam)), pieces-within parts n (omega (arith, seam)))

chain-within : (t : Tree) (n : ℕ) → IsProper t → positions t ≤ n → Each (HasPositions n) (pieces_of (items_of t))
chain-within t n proper few =
    let same : row (items_within (parts_of (items_of t))) ≡ positions t =
    ap row (parts_of-same (items_of t) (items-proper t proper)) ∙ items-row t in
    pieces-within (parts_of (items_of t)) n (omega (arith, same))

mutual
  pub chains-within : (t : Tree) (n : ℕ) → IsProper t → positions t ≤ n → Each (λ chain. Each (HasPositions n) chain) (chains_of t)
  chains-within empty n proper few = (chain-within empty n proper few, tt)
  chains-within (class set) n proper few = (chain-within (class set) n proper few, tt)
  chains-within (points ranges) n proper few = (chain-within (points ranges) n proper few, tt)
  chains-within (assert assertion) n proper few = (chain-within (assert assertion) n proper few, tt)
  chains-within (cat items) n proper few = (chain-within (cat items) n proper few, tt)
  chains-within (alt items) n proper few = alternatives-within items n proper few
  chains-within (repeat body least greatest) n proper few = (chain-within (repeat body least greatest) n proper few, tt)

  alternatives-within : (items : Trees) (n : ℕ) → AreProper items → sum (position_counts items) ≤ n →
      Each (λ chain. Each (HasPositions n) chain) (map (λ u. pieces_of (items_of u)) (alternatives_of_all items))
  alternatives-within none n proper few = tt
  alternatives-within (more item items) n proper few =
      let all = more-positions item items in
      subst (Each (λ chain. Each (HasPositions n) chain)) (sym (map-append (λ u. pieces_of (items_of u)) (alternatives_of item) (alternatives_of_all items)))
      (each-append (λ chain. Each (HasPositions n) chain) (chains_of item) (map (λ u. pieces_of (items_of u)) (alternatives_of_all items))
      (chains-within item n proper.0 (omega (arith, all))) (alternatives-within items n proper.1 (omega (arith, all))))
