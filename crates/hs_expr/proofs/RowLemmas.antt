-- The positions of items in a row.
use Rattle.std.proofs.Common.{◌≡◌, ◌+◌, List, [], ◌∷◌, ◌++◌, sum, arith}
use Rattle.std.proofs.lemmas.List.Sums.{sum_by-cons}
use Rattle.hs_base.specs.Trees.{Tree, Trees, more, trees_of}
use Rattle.hs_expr.specs.Counts.{positions, position_counts}
use Rattle.hs_expr.specs.Waiting.{row}

row-cons : (t : Tree) (ts : List Tree) → row (t ∷ ts) ≡ positions t + row ts
row-cons t ts = sum_by-cons (λ x. x) (positions t) (position_counts (trees_of ts))

pub row-append : (xs ys : List Tree) → row (xs ++ ys) ≡ row xs + row ys
row-append [] ys = omega arith
row-append (x ∷ xs) ys =
    let all = row-cons x (xs ++ ys) in
    let front = row-cons x xs in
    let rest = row-append xs ys in
    omega (arith, all, front, rest)

pub one-row : (t : Tree) → row (t ∷ []) ≡ positions t
one-row t = let all = row-cons t [] in omega (arith, all)

-- one more item
pub row-snoc : (items : List Tree) (t : Tree) → row (items ++ t ∷ []) ≡ row items + positions t
row-snoc items t =
    let seam = row-append items (t ∷ []) in
    let one = one-row t in
    omega (arith, seam, one)

pub more-positions : (item : Tree) (items : Trees) →
    sum (position_counts (more item items)) ≡ positions item + sum (position_counts items)
more-positions item items = sum_by-cons (λ x. x) (positions item) (position_counts items)
