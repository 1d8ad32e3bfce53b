-- The bits of identifiers in a region.
use Rattle.std.proofs.Common.{◌≡◌, ℕ, zero, suc, ◌+◌, ◌<◌, ◌≤◌, Bool, true, false, List, [], ◌∷◌, ◌++◌, length, set, take, Some, slice_get, refl, sym, ap, subst, ◌∙◌, inl, inr, arith, length-append}
use Rattle.std.proofs.lemmas.Bool.{cases_eq}
use Rattle.std.proofs.lemmas.List.{length-take-le}
use Rattle.std.proofs.lemmas.Option.{same_Some, slice_get_within}
use Rattle.hs_layout.specs.Layouts.{Laid}
use Rattle.hs_rose.specs.Identifiers.{singles_of}
use Rattle.hs_rose.specs.Identifiers.{with_single}
use Rattle.hs_run.specs.Keeping.{AreBitsWritten, HasBits, IsOneWritten, IsRead, singles_before}
use Rattle.hs_run.specs.declared.kept.Kept.{Kept}
use Rattle.hs_rose.specs.declared.identifiers.Identifier.{Identifier}
use Rattle.hs_run.proofs.RowLemmas.{set-other, set-same, take-more}

-- single identifiers among all

with-append : (s : Bool) (x : Identifier) (xs ys : List Identifier) → with_single s x (xs ++ ys) ≡ with_single s x xs ++ ys
with-append true x xs ys = refl
with-append false x xs ys = refl

singles-push : (xs : List Identifier) (x : Identifier) → singles_of (xs ++ x ∷ []) ≡ singles_of xs ++ with_single x.single x []
singles-push [] x = refl
singles-push (y ∷ xs) x = ap (with_single y.single y) (singles-push xs x) ∙ with-append y.single y (singles_of xs) (with_single x.single x [])

pub singles-next : (xs : List Identifier) (i : ℕ) (x : Identifier) → slice_get xs i ≡ Some x → singles_before xs (i + 1) ≡ singles_before xs i + length (with_single x.single x [])
singles-next xs i x at =
    ap (λ ys. length (singles_of ys)) (take-more xs i x at)
    ∙ (ap length (singles-push (take i xs) x) ∙ length-append (singles_of (take i xs)) (with_single x.single x []))

with-behind : (s : Bool) (y : Identifier) (xs ys : List Identifier) (x : Identifier) → slice_get xs (length ys) ≡ Some x → slice_get (with_single s y xs) (length (with_single s y ys)) ≡ Some x
with-behind true y xs ys x at = at
with-behind false y xs ys x at = at

pub single-at : (xs : List Identifier) (i : ℕ) (x : Identifier) → slice_get xs i ≡ Some x → x.single ≡ true → slice_get (singles_of xs) (singles_before xs i) ≡ Some x
single-at [] i x at is = absurd (cc)
single-at (y ∷ xs) zero x at is =
    let one : y ≡ x = same_Some y x at in
    ap (λ s. slice_get (with_single s y (singles_of xs)) 0) (ap (λ z. z.single) one ∙ is) ∙ ap (λ z. Some z) one
single-at (y ∷ xs) (suc i) x at is = with-behind y.single y (singles_of xs) (singles_of (take i xs)) x (single-at xs i x at is)

pub single-below : (xs : List Identifier) (i : ℕ) (x : Identifier) → slice_get xs i ≡ Some x → x.single ≡ true → singles_before xs i < length (singles_of xs)
single-below xs i x at is = slice_get_within (singles_of xs) (singles_before xs i) x (single-at xs i x at is)

with-longer : (s : Bool) (y : Identifier) (xs ys : List Identifier) → length xs < length ys → length (with_single s y xs) < length (with_single s y ys)
with-longer true y xs ys less = omega (arith, less)
with-longer false y xs ys less = less

pub singles-rise : (xs : List Identifier) (j i : ℕ) (x : Identifier) → slice_get xs j ≡ Some x → x.single ≡ true → j < i → singles_before xs j < singles_before xs i
singles-rise [] j i x at is less = absurd (cc)
singles-rise (y ∷ xs) zero zero x at is less = absurd (omega (arith, less))
singles-rise (y ∷ xs) zero (suc i) x at is less =
    subst (λ s. 0 < length (with_single s y (singles_of (take i xs)))) (sym (ap (λ z. z.single) (same_Some y x at) ∙ is)) (omega arith)
singles-rise (y ∷ xs) (suc j) zero x at is less = absurd (omega (arith, less))
singles-rise (y ∷ xs) (suc j) (suc i) x at is less = with-longer y.single y (singles_of (take j xs)) (singles_of (take i xs)) (singles-rise xs j i x at is (omega (arith, less)))

-- the single identifier of that number
pub record IsSingleAt (xs : List Identifier) (n : ℕ) (x : Identifier) : Type 0 where
  pub place : ℕ
  pub there : slice_get xs place ≡ Some x
  pub is : x.single ≡ true
  pub number : singles_before xs place ≡ n

single-later : (y : Identifier) (xs : List Identifier) (m n : ℕ) (x : Identifier) → (s : Bool) → y.single ≡ s → length (with_single s y []) + m ≡ n → IsSingleAt xs m x → IsSingleAt (y ∷ xs) n x
single-later y xs m n x s same count is = record {
  place = suc is.place;
  there = is.there;
  is = is.is;
  number =
      ap (λ z. length (with_single z y (singles_of (take is.place xs)))) same ∙ (with-length s y (singles_of (take is.place xs)) ∙ omega (arith, is.number, count));
}
  where
    with-length : (z : Bool) (w : Identifier) (ws : List Identifier) → length (with_single z w ws) ≡ length (with_single z w []) + length ws
    with-length true w ws = omega arith
    with-length false w ws = omega arith

single-by : (y : Identifier) (xs : List Identifier) (n : ℕ) (x : Identifier) (s : Bool) → y.single ≡ s → ((m : ℕ) → slice_get (singles_of xs) m ≡ Some x → IsSingleAt xs m x) →
    slice_get (with_single s y (singles_of xs)) n ≡ Some x → IsSingleAt (y ∷ xs) n x
single-by y xs n x false same more at = single-later y xs n n x false same (omega arith) (more n at)
single-by y xs zero x true same more at =
    let one : y ≡ x = same_Some y x at in
    record { place = 0; there = at; is = sym (ap (λ z. z.single) one) ∙ same; number = refl }
single-by y xs (suc n) x true same more at = single-later y xs n (suc n) x true same (omega arith) (more n at)

pub single-of : (xs : List Identifier) (n : ℕ) (x : Identifier) → slice_get (singles_of xs) n ≡ Some x → IsSingleAt xs n x
single-of [] n x at = absurd (cc)
single-of (y ∷ xs) n x at = single-by y xs n x y.single refl (λ m found. single-of xs m x found) at

-- what is read, one by one

pub read-more : (l : Laid) (region : List ℕ) (xs : List Identifier) (ks : List Kept) (i n : ℕ) (x : Identifier) (old k : Kept) → slice_get xs i ≡ Some x → slice_get ks i ≡ Some old → n ≡ singles_before xs i → IsRead l region x i n k →
    ((j : ℕ) (y : Identifier) (z : Kept) → j < i → slice_get xs j ≡ Some y → slice_get ks j ≡ Some z → IsRead l region y j (singles_before xs j) z) →
    (j : ℕ) (y : Identifier) (z : Kept) → j < i + 1 → slice_get xs j ≡ Some y → slice_get (set ks i k) j ≡ Some z → IsRead l region y j (singles_before xs j) z
read-more l region xs ks i n x old k named there number is before j y z below at at' = elim (cases_eq j i) [
  | inl same ↦
      let p : x ≡ y = same_Some x y (sym named ∙ (ap (slice_get xs) (sym same) ∙ at)) in
      let q : k ≡ z = same_Some k z (sym (set-same ks i old k there) ∙ (ap (slice_get (set ks i k)) (sym same) ∙ at')) in
      subst (λ m. IsRead l region y m (singles_before xs m) z) (sym same)
      (subst (λ w. IsRead l region y i w z) number (subst (λ w. IsRead l region w i n z) p (subst (λ w. IsRead l region x i n w) q is)))
  | inr apart ↦ before j y z (omega (arith, below, apart)) at (sym (set-other ks j i k apart) ∙ at')
]

-- what is written, one by one

pub bits-join : (l : Laid) (old mid new : List ℕ) → AreBitsWritten l old mid → AreBitsWritten l mid new → AreBitsWritten l old new
bits-join l old mid new first second = record {
  len = second.len ∙ first.len;
  bytes = λ i outside. second.bytes i outside ∙ first.bytes i outside;
  spare = λ k is. second.spare k is ∙ first.spare k is;
}

pub bits-none : (l : Laid) (region : List ℕ) → AreBitsWritten l region region
bits-none l region = record { len = refl; bytes = λ i outside. refl; spare = λ k is. refl }

pub write-more : (l : Laid) (mid new : List ℕ) (xs : List Identifier) (ks : List Kept) (i n : ℕ) (x : Identifier) (k : Kept) → HasBits l xs → slice_get xs i ≡ Some x → slice_get ks i ≡ Some k → n ≡ singles_before xs i →
    IsRead l new x i n k → IsOneWritten l x i n mid new →
    ((j : ℕ) (y : Identifier) (z : Kept) → j < i → slice_get xs j ≡ Some y → slice_get ks j ≡ Some z → IsRead l mid y j (singles_before xs j) z) →
    (j : ℕ) (y : Identifier) (z : Kept) → j < i + 1 → slice_get xs j ≡ Some y → slice_get ks j ≡ Some z → IsRead l new y j (singles_before xs j) z
write-more l mid new xs ks i n x k has named there number is written before j y z below at at' = elim (cases_eq j i) [
  | inl same ↦
      let p : x ≡ y = same_Some x y (sym named ∙ (ap (slice_get xs) (sym same) ∙ at)) in
      let q : k ≡ z = same_Some k z (sym there ∙ (ap (slice_get ks) (sym same) ∙ at')) in
      subst (λ m. IsRead l new y m (singles_before xs m) z) (sym same)
      (subst (λ w. IsRead l new y i w z) number (subst (λ w. IsRead l new w i n z) p (subst (λ w. IsRead l new x i n w) q is)))
  | inr apart ↦
      let less : j < i = omega (arith, below, apart) in
      let was = before j y z less at at' in
      let inside : j < l.identifiers = omega (arith, slice_get_within xs j y at, has.all) in
      record {
        told = λ single.
            let low : singles_before xs j < l.singles = omega (arith, single-below xs j y at single, has.singles) in
            was.told single ∙ sym (written.told (singles_before xs j) low (λ also same. omega (arith, singles-rise xs j i y at single less, same, number)));
        here = was.here ∙ sym (written.here j inside apart);
        last = was.last ∙ sym (written.last j inside apart);
      }
]

-- there are no more than identifiers

with-count : (s : Bool) (y : Identifier) (xs : List Identifier) (n : ℕ) → length xs ≤ n → length (with_single s y xs) ≤ suc n
with-count true y xs n few = omega (arith, few)
with-count false y xs n few = omega (arith, few)

singles-count : (xs : List Identifier) → length (singles_of xs) ≤ length xs
singles-count [] = omega arith
singles-count (y ∷ xs) = with-count y.single y (singles_of xs) (length xs) (singles-count xs)

pub singles-few : (xs : List Identifier) (i : ℕ) → i ≤ length xs → singles_before xs i ≤ i
singles-few xs i within = omega (arith, singles-count (take i xs), length-take-le i xs within)
