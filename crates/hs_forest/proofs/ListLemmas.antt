-- Members of lists by their numbers.
use Rattle.std.proofs.Common.{◌≡◌, ◌⊎◌, ℕ, zero, suc, ◌+◌, List, [], ◌∷◌, ◌++◌, length, map, take, slice_get, Option, Some, refl, sym, ap, subst, ◌∙◌, inl, inr, arith}
use Rattle.std.proofs.lemmas.List.{map-append}
use Rattle.hs_forest.specs.Forests.{AreDistinct}
use Rattle.hs_forest.specs.Growing.{IsNewPath, IsPathNumbered, found, added}

-- the members of the one list have the same numbers in the other
abbrev pub AreKept : {A : Type 0} → List A → List A → Type 0
AreKept {A} before now = (k : ℕ) (x : A) → slice_get before k ≡ Some x → slice_get now k ≡ Some x

-- a member keeps its number where more come behind
pub get-left : {A : Type 0} (xs ys : List A) (k : ℕ) (x : A) → slice_get xs k ≡ Some x → slice_get (xs ++ ys) k ≡ Some x
get-left [] ys k x at = absurd (cc)
get-left (a ∷ xs) ys zero x at = at
get-left (a ∷ xs) ys (suc k) x at = get-left xs ys k x at

-- the one behind all has their count for its number
pub get-behind : {A : Type 0} (xs : List A) (x : A) → slice_get (xs ++ x ∷ []) (length xs) ≡ Some x
get-behind [] x = refl
get-behind (a ∷ xs) x = get-behind xs x

after-suc : {A : Type 0} (a : A) (xs : List A) (y : A) (k : ℕ) (x : A) → (slice_get xs k ≡ Some x) ⊎ ((k ≡ length xs) × (y ≡ x)) → (slice_get (a ∷ xs) (suc k) ≡ Some x) ⊎ ((suc k ≡ suc (length xs)) × (y ≡ x))
after-suc a xs y k x (inl at) = inl at
after-suc a xs y k x (inr is) = inr (ap suc is.0, is.1)

-- a member of a list and one more
pub get-push : {A : Type 0} (xs : List A) (y : A) (k : ℕ) (x : A) → slice_get (xs ++ y ∷ []) k ≡ Some x → (slice_get xs k ≡ Some x) ⊎ ((k ≡ length xs) × (y ≡ x))
get-push [] y zero x at = inr (refl, cc)
get-push [] y (suc k) x at = absurd (cc)
get-push (a ∷ xs) y zero x at = inl at
get-push (a ∷ xs) y (suc k) x at = after-suc a xs y k x (get-push xs y k x at)

apart-pushed : (xs : List (List ℕ)) (y : List ℕ) → AreDistinct xs → IsNewPath xs y → (j k : ℕ) (x : List ℕ) → (slice_get xs j ≡ Some x) ⊎ ((j ≡ length xs) × (y ≡ x)) → (slice_get xs k ≡ Some x) ⊎ ((k ≡ length xs) × (y ≡ x)) → j ≡ k
apart-pushed xs y apart new j k x (inl at) (inl at') = apart j k x at at'
apart-pushed xs y apart new j k x (inl at) (inr is) = absurd (new j (at ∙ ap Some (sym is.1)))
apart-pushed xs y apart new j k x (inr is) (inl at) = absurd (new k (at ∙ ap Some (sym is.1)))
apart-pushed xs y apart new j k x (inr is) (inr is') = is.0 ∙ sym is'.0

-- one more that is new
pub apart-push : (xs : List (List ℕ)) (y : List ℕ) → AreDistinct xs → IsNewPath xs y → AreDistinct (xs ++ y ∷ [])
apart-push xs y apart new j k x at at' = apart-pushed xs y apart new j k x (get-push xs y j x at) (get-push xs y k x at')

-- the first so many and one more
pub take-get : {A : Type 0} (xs : List A) (k : ℕ) (x : A) → slice_get xs k ≡ Some x → take (suc k) xs ≡ take k xs ++ x ∷ []
take-get [] k x at = absurd (cc)
take-get (a ∷ xs) zero x at = let e : a ≡ x = cc in ap (λ y. y ∷ []) e
take-get (a ∷ xs) (suc k) x at = ap (λ ys. a ∷ ys) (take-get xs k x at)

-- what is numbered keeps the numbers of the others
pub numbered-kept : (before : List (List ℕ)) (x : List ℕ) (now : List (List ℕ)) (n : ℕ) → IsPathNumbered before x now n → AreKept before now
numbered-kept before x now n (found same at) k y is = subst (λ zs. slice_get zs k ≡ Some y) (sym same) is
numbered-kept before x now n (added new same end) k y is = subst (λ zs. slice_get zs k ≡ Some y) (sym same) (get-left before (x ∷ []) k y is)

pub numbered-named : (before : List (List ℕ)) (x : List ℕ) (now : List (List ℕ)) (n : ℕ) → IsPathNumbered before x now n → slice_get now n ≡ Some x
numbered-named before x now n (found same at) = subst (λ zs. slice_get zs n ≡ Some x) (sym same) at
numbered-named before x now n (added new same end) =
    subst (λ zs. slice_get zs n ≡ Some x) (sym same) (subst (λ k. slice_get (before ++ x ∷ []) k ≡ Some x) (sym end) (get-behind before x))

-- each of those that are there then was there, or is x
pub numbered-old : (before : List (List ℕ)) (x : List ℕ) (now : List (List ℕ)) (n : ℕ) → IsPathNumbered before x now n → (k : ℕ) (y : List ℕ) → slice_get now k ≡ Some y → (slice_get before k ≡ Some y) ⊎ (x ≡ y)
numbered-old before x now n (found same at) k y is = inl (subst (λ zs. slice_get zs k ≡ Some y) same is)
numbered-old before x now n (added new same end) k y is = old-or (get-push before x k y (subst (λ zs. slice_get zs k ≡ Some y) same is)) where
  old-or : (slice_get before k ≡ Some y) ⊎ ((k ≡ length before) × (x ≡ y)) → (slice_get before k ≡ Some y) ⊎ (x ≡ y)
  old-or (inl at) = inl at
  old-or (inr is) = inr is.1

-- all members have a value by the one function, and the same by the other
pub map-kept : {A B : Type 0} (f g : A → Option B) (xs : List A) (ys : List B) → map f xs ≡ map Some ys → ((x : A) (y : B) → f x ≡ Some y → g x ≡ Some y) → map g xs ≡ map Some ys
map-kept f g [] [] is to = refl
map-kept f g [] (y ∷ ys) is to = absurd (cc)
map-kept f g (x ∷ xs) [] is to = absurd (cc)
map-kept f g (x ∷ xs) (y ∷ ys) is to =
    let here : g x ≡ Some y = to x y (cc) in
    let rest : map g xs ≡ map Some ys = map-kept f g xs ys (cc) to in
    ap (λ z. z ∷ map g xs) here ∙ ap (λ zs. Some y ∷ zs) rest

-- each member has one
pub map-value : {A B : Type 0} (f : A → Option B) (xs : List A) (ys : List B) → map f xs ≡ map Some ys → (i : ℕ) (x : A) → slice_get xs i ≡ Some x → (y : B) × (slice_get ys i ≡ Some y) × (f x ≡ Some y)
map-value f [] ys is i x at = absurd (cc)
map-value f (a ∷ xs) [] is i x at = absurd (cc)
map-value f (a ∷ xs) (y ∷ ys) is zero x at = let e : a ≡ x = cc in let here : f a ≡ Some y = cc in (y, refl, subst (λ v. f v ≡ Some y) e here)
map-value f (a ∷ xs) (y ∷ ys) is (suc i) x at = map-value f xs ys (cc) i x at

-- nothing ends with a member and is empty
pub snoc-some : {A : Type 0} (xs : List A) (x : A) → xs ++ x ∷ [] ≡ [] → ⊥
snoc-some [] x e = absurd (cc)
snoc-some (a ∷ xs) x e = absurd (cc)

-- lists that are equal have equal fronts and equal last members
pub snoc-parts : {A : Type 0} (xs ys : List A) (x y : A) → xs ++ x ∷ [] ≡ ys ++ y ∷ [] → (xs ≡ ys) × (x ≡ y)
snoc-parts [] [] x y e = (refl, cc)
snoc-parts [] (b ∷ ys) x y e = let none : ys ++ y ∷ [] ≡ [] = cc in absurd (snoc-some ys y none)
snoc-parts (a ∷ xs) [] x y e = let none : xs ++ x ∷ [] ≡ [] = cc in absurd (snoc-some xs x none)
snoc-parts (a ∷ xs) (b ∷ ys) x y e =
    let first : a ≡ b = cc in
    let rest : xs ++ x ∷ [] ≡ ys ++ y ∷ [] = cc in
    let own = snoc-parts xs ys x y rest in
    (ap (λ z. z ∷ xs) first ∙ ap (λ zs. b ∷ zs) own.0, own.1)

-- of the first so many of a list and one more
pub taken-more : {A B : Type 0} (f : A → B) (xs : List A) (k : ℕ) (x : A) → slice_get xs k ≡ Some x → map f (take (k + 1) xs) ≡ map f (take k xs) ++ f x ∷ []
taken-more f xs k x at =
    let next : k + 1 ≡ suc k = omega arith in
    ap (λ n. map f (take n xs)) next ∙ ap (λ zs. map f zs) (take-get xs k x at) ∙ map-append f (take k xs) (x ∷ [])
