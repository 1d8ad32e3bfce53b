-- How many identifiers are single.
use Rattle.std.proofs.Common.{◌≡◌, ℕ, suc, ◌+◌, ◌≤◌, Bool, true, false, List, [], ◌∷◌, ◌++◌, length, take, Some, slice_get, refl, ap, ◌∙◌, arith, length-append}
use Rattle.hs_rose.specs.declared.identifiers.Identifier.{Identifier}
use Rattle.hs_rose.specs.Identifiers.{singles_of, with_single}
use Rattle.hs_rose.proofs.ListLemmas.{take-get}

with-append : (s : Bool) (y : Identifier) (xs ys : List Identifier) → with_single s y (xs ++ ys) ≡ with_single s y xs ++ ys
with-append true y xs ys = refl
with-append false y xs ys = refl

singles-push : (xs : List Identifier) (x : Identifier) → singles_of (xs ++ x ∷ []) ≡ singles_of xs ++ with_single x.single x []
singles-push [] x = refl
singles-push (y ∷ xs) x = ap (with_single y.single y) (singles-push xs x) ∙ with-append y.single y (singles_of xs) (with_single x.single x [])

with-few : (s : Bool) (y : Identifier) (xs : List Identifier) → length (with_single s y xs) ≤ suc (length xs)
with-few true y xs = omega arith
with-few false y xs = omega arith

pub singles-few : (xs : List Identifier) → length (singles_of xs) ≤ length xs
singles-few [] = omega arith
singles-few (y ∷ xs) = let one = with-few y.single y (singles_of xs) in let rest = singles-few xs in omega (arith, one, rest)

pub singles-next : (xs : List Identifier) (i : ℕ) (x : Identifier) → slice_get xs i ≡ Some x → length (singles_of (take (i + 1) xs)) ≡ length (singles_of (take i xs)) + length (with_single x.single x [])
singles-next xs i x at =
    let next : i + 1 ≡ suc i = omega arith in
    ap (λ n. length (singles_of (take n xs))) next
    ∙ (ap (λ ys. length (singles_of ys)) (take-get xs i x at) ∙ (ap length (singles-push (take i xs) x) ∙ length-append (singles_of (take i xs)) (with_single x.single x [])))

abbrev pub no_identifier : Identifier
no_identifier = record { id = record { 0 = 0 }; single = false }
