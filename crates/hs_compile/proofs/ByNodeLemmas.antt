-- The terminals of a node.
use Rattle.std.proofs.Common.{◌≡◌, ◌⊎◌, ℕ, zero, suc, ◌+◌, ◌-◌, ◌<◌, ◌≤◌, Bool, false, ◌==◌, ◌&&◌, ◌||◌, List, [], ◌∷◌, length, take, drop, Some, slice_get, refl, sym, ap, ◌∙◌, subst, inl, inr, arith}
use Rattle.std.specs.Prelude.{slice_index, slice_range}
use Rattle.std.specs.List.{list_any}
use Rattle.std.proofs.lemmas.Bool.{cases_lt, eq-eqb}
use Rattle.std.proofs.lemmas.Bool.Decides.{nat_tests}
use Rattle.hs_reports.specs.declared.terminal.Terminal.{Terminal}
use Rattle.hs_reports.specs.Gathering.{AreOfNode}
use Rattle.hs_compile.specs.GraphLists.{LieByNode}

-- the terminals of a node are those between two starts

-- the places of the terminals of a node
abbrev AreAt : (node low high : ℕ) → List Terminal → Type 0
AreAt node low high terminals =
    (i : ℕ) (x : Terminal) → slice_get terminals i ≡ Some x → (low ≤ i → i < high → x.node ≡ node) × (x.node ≡ node → (low ≤ i) × (i < high))

at-behind : (node low high low' high' : ℕ) (x : Terminal) (xs : List Terminal) → low' ≡ low - 1 → high' ≡ high - 1 → AreAt node low high (x ∷ xs) → AreAt node low' high' xs
at-behind node low high low' high' x xs below end are i y at =
    let is = are (suc i) y at in (
      λ from to. is.0 (omega (arith, from, below)) (omega (arith, to, end)),
      λ same. let (from, to) = is.1 same in (omega (arith, from, below), omega (arith, to, end)),
    )

not-at : (a b : ℕ) → (a ≡ b → ⊥) → (a == b) ≡ false
not-at a b apart = grind (arith, nat_tests)

none-at : (test : Terminal → Bool) (node low high : ℕ) (xs : List Terminal) → high ≤ low → AreAt node low high xs → false ≡ list_any (λ x. (x.node == node) && test x) xs
none-at test node low high [] empty are = refl
none-at test node low high (x ∷ xs) empty are =
    none-at test node (low - 1) (high - 1) xs (omega (arith, empty)) (at-behind node low high (low - 1) (high - 1) x xs refl refl are)
    ∙ ap (λ b. (b && test x) || list_any (λ y. (y.node == node) && test y) xs) (sym (not-at x.node node (λ same. let (from, to) = (are 0 x refl).1 same in omega (arith, from, to, empty))))

any-take : (test : Terminal → Bool) (n : ℕ) → list_any test (take n []) ≡ false
any-take test zero = refl
any-take test (suc n) = refl

pub range-at : (test : Terminal → Bool) (node low high : ℕ) (xs : List Terminal) → AreAt node low high xs → list_any test (slice_range xs low high) ≡ list_any (λ x. (x.node == node) && test x) xs
range-at test node low zero xs are =
    let none : 0 - low ≡ 0 = omega arith in
    ap (λ n. list_any test (take n (drop low xs))) none ∙ none-at test node low 0 xs (omega arith) are
range-at test node zero (suc high) [] are = any-take test (suc high - 0)
range-at test node zero (suc high) (x ∷ xs) are =
    let more : suc high - 0 ≡ suc high = omega arith in
    let rest : high ≡ high - 0 = omega arith in
    ap (λ n. list_any test (take n (x ∷ xs))) more
    ∙ (ap (λ b. test x || b) (ap (λ n. list_any test (take n xs)) rest ∙ range-at test node 0 high xs (at-behind node 0 (suc high) 0 high x xs (omega arith) (omega arith) are))
    ∙ ap (λ b. (b && test x) || list_any (λ y. (y.node == node) && test y) xs) (sym (eq-eqb x.node node ((are 0 x refl).0 (omega arith) (omega arith)))))
range-at test node (suc low) (suc high) [] are = any-take test (suc high - suc low)
range-at test node (suc low) (suc high) (x ∷ xs) are =
    let rest : suc high - suc low ≡ high - low = omega arith in
    ap (λ n. list_any test (take n (drop low xs))) rest
    ∙ (range-at test node low high xs (at-behind node (suc low) (suc high) low high x xs (omega arith) (omega arith) are)
    ∙ ap (λ b. (b && test x) || list_any (λ y. (y.node == node) && test y) xs) (sym (not-at x.node node (λ same. let (from, to) = (are 0 x refl).1 same in omega (arith, from)))))

pub of-node : (starts : List ℕ) (terminals : List Terminal) (node : ℕ) → LieByNode starts terminals → node + 1 < length starts →
    AreOfNode terminals node (slice_range terminals (slice_index starts node) (slice_index starts (node + 1)))
of-node starts terminals node lie inside test = range-at test node (slice_index starts node) (slice_index starts (node + 1)) terminals are
  where
    are : AreAt node (slice_index starts node) (slice_index starts (node + 1)) terminals
    are i x at = (λ from to. between (cases_lt x.node node) from to, λ same. inside-of same)
      where
        next : suc x.node ≡ x.node + 1
        next = omega arith

        between : (x.node < node) ⊎ (node ≤ x.node) → slice_index starts node ≤ i → i < slice_index starts (node + 1) → x.node ≡ node
        between (inl less) from to = absurd (omega (arith, from, lie.high i x at (omega (arith, less, inside)), lie.rising (suc x.node) node (omega (arith, less)) (omega (arith, inside))))
        between (inr more) from to = elim (cases_lt node x.node) [
          | inl above ↦ absurd (omega (arith, to, lie.low i x at, lie.rising (node + 1) x.node (omega (arith, above)) (lie.known i x at)))
          | inr same ↦ omega (arith, more, same)
        ]

        inside-of : x.node ≡ node → (slice_index starts node ≤ i) × (i < slice_index starts (node + 1))
        inside-of same = (
          subst (λ n. slice_index starts n ≤ i) same (lie.low i x at),
          subst (λ n. i < slice_index starts (n + 1)) same (subst (λ n. i < slice_index starts n) next (lie.high i x at (omega (arith, same, inside)))),
        )
