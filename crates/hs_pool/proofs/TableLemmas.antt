-- Lists that a pool grows by, and its rows.
use Rattle.std.proofs.Common.{◌≡◌, ℕ, zero, suc, ◌+◌, ◌<◌, inl, inr, List, [], ◌∷◌, ◌++◌, length, replicate, get_or, Some, slice_get, slice_index, slice_index_or, refl, sym, ap, ◌∙◌, arith, length-append}
use Rattle.std.specs.Prelude.{if◌then◌else◌, is_ok, Result, Ok}
use Rattle.std.proofs.lemmas.Bool.{cases_lt, cases_eq}
use Rattle.std.proofs.lemmas.List.{get_or_append_left, get_or-append-add, get_or_past}
use Rattle.std.proofs.lemmas.Option.{get_or_from_slice_get, slice_get-get_or, slice_get_within}
use Rattle.hs_pool.specs.Rows.{AreLeading, next_of}

-- what a push that went well made of a list
pub pushed : {A T E : Type 0} (old new : List A) (x : A) (r : Result T E) (t : T) → new ≡ (if is_ok r then old ++ x ∷ [] else old) → r ≡ Ok t →
    new ≡ old ++ x ∷ []
pushed {T = T} {E = E} old new x r t is ok = is ∙ ap (λ (q : Result T E). if is_ok q then old ++ x ∷ [] else old) ok

pub longer : {A T E : Type 0} (old new : List A) (x : A) (r : Result T E) (t : T) → new ≡ (if is_ok r then old ++ x ∷ [] else old) → r ≡ Ok t → 0 < length new
longer old new x r t is ok = omega (arith, ap length (pushed old new x r t is ok), length-append old (x ∷ []))

pub get-pushed : {A : Type 0} (xs : List A) (y : A) (i : ℕ) (x : A) → slice_get xs i ≡ Some x → slice_get (xs ++ y ∷ []) i ≡ Some x
get-pushed xs y i x is =
    let low : i < length xs = slice_get_within xs i x is in
    slice_get-get_or (xs ++ y ∷ []) i x (omega (arith, length-append xs (y ∷ []))) ∙
    ap Some (get_or_append_left xs (y ∷ []) x i low ∙ get_or_from_slice_get xs i x x is)

pub get-last : {A : Type 0} (xs : List A) (y : A) → slice_get (xs ++ y ∷ []) (length xs) ≡ Some y
get-last xs y =
    slice_get-get_or (xs ++ y ∷ []) (length xs) y (omega (arith, length-append xs (y ∷ []))) ∙
    ap Some (ap (λ n. get_or (xs ++ y ∷ []) n y) (omega arith) ∙ get_or-append-add xs (y ∷ []) 0 y)

some-same : {A : Type 0} (x y : A) → Some x ≡ Some y → x ≡ y
some-same x y same = cc

pub same-got : {A : Type 0} (xs : List A) (i : ℕ) (x y : A) → slice_get xs i ≡ Some x → slice_get xs i ≡ Some y → x ≡ y
same-got xs i x y one other = some-same x y (sym one ∙ other)

-- a row of zeros
pub zeros-at : (n k : ℕ) → slice_index (replicate n 0) k ≡ 0
zeros-at zero k = refl
zeros-at (suc n) zero = refl
zeros-at (suc n) (suc k) = zeros-at n k

module _ (rows : List (List ℕ)) (row : List ℕ) where
  -- a row that is there stays behind a push
  pub row-before : (s : ℕ) → s < length rows → slice_index_or (rows ++ row ∷ []) s [] ≡ slice_index_or rows s []
  row-before s low = get_or_append_left rows (row ∷ []) [] s low

  -- and of the others no step is known, if the new one has none
  pub row-after : ((k : ℕ) → slice_index row k ≡ 0) → (s k : ℕ) → (s < length rows → ⊥) → slice_index (slice_index_or (rows ++ row ∷ []) s []) k ≡ 0
  row-after zeros s k high = elim (cases_eq s (length rows)) [
    | inl same ↦
        ap (λ l. slice_index l k)
        (ap (λ n. slice_index_or (rows ++ row ∷ []) n []) (let e : s ≡ length rows + 0 = omega (arith, same) in e) ∙ get_or-append-add rows (row ∷ []) 0 [])
        ∙ zeros k
    | inr other ↦ elim (cases_lt s (length rows)) [
      | inl low ↦ absurd (high low)
      | inr more ↦ ap (λ l. slice_index l k) (get_or_past (rows ++ row ∷ []) s [] (omega (arith, more, other, length-append rows (row ∷ []))))
    ]
  ]

  -- each step leads to a state that is there
  pub leading-pushed : ((k : ℕ) → slice_index row k ≡ 0) → (count count' : ℕ) → length rows ≡ count → count' ≡ count + 1 → AreLeading rows count → AreLeading (rows ++ row ∷ []) count'
  leading-pushed zeros count count' long more leading s k below = elim (cases_lt s (length rows)) [
    | inl low ↦
        let e : next_of (slice_index (slice_index_or (rows ++ row ∷ []) s []) k) ≡ next_of (slice_index (slice_index_or rows s []) k) = ap (λ l. next_of (slice_index l k)) (row-before s low) in
        omega (arith, e, more, leading s k (omega (arith, long, low)))
    | inr high ↦
        let e : next_of (slice_index (slice_index_or (rows ++ row ∷ []) s []) k) ≡ next_of 0 = ap next_of (row-after zeros s k (λ low. omega (arith, low, high))) in
        let z : next_of 0 ≡ 0 = refl in
        omega (arith, e, z, more)
  ]
