-- Members of lists by their numbers, and lists that agree place by place.
use Rattle.std.proofs.Common.{◌≡◌, ◌⊎◌, ℕ, zero, suc, ◌+◌, ◌<◌, ◌≤◌, List, [], ◌∷◌, ◌++◌, length, map, take, slice_get, get_or, below_more, Some, refl, sym, ap, subst, ◌∙◌, inl, inr, arith}
use Rattle.std.specs.List.{AllZip}
use Rattle.std.specs.Option.{option_map}
use Rattle.std.proofs.lemmas.Option.{slice_get-map, slice_get_read, slice_get_within}
use Rattle.hs_base.specs.Lists.{Each}
use Rattle.hs_rose.specs.Numbering.{AreApart, IsNew}

-- a member keeps its number where more come behind
pub get-left : {A : Type 0} (xs ys : List A) (k : ℕ) (x : A) → slice_get xs k ≡ Some x → slice_get (xs ++ ys) k ≡ Some x
get-left [] ys k x at = absurd (cc)
get-left (a ∷ xs) ys zero x at = at
get-left (a ∷ xs) ys (suc k) x at = get-left xs ys k x at

-- the one behind all has their count for its number
pub get-behind : {A : Type 0} (xs : List A) (x : A) → slice_get (xs ++ x ∷ []) (length xs) ≡ Some x
get-behind [] x = refl
get-behind (a ∷ xs) x = get-behind xs x

after-suc : {A : Type 0} (a : A) (xs : List A) (y : A) (k : ℕ) (x : A) → (slice_get xs k ≡ Some x) ⊎ ((k ≡ length xs) × (y ≡ x)) → (slice_get (a ∷ xs) (suc k) ≡ Some x) ⊎ ((suc k ≡ suc (length xs)) × (y ≡ x))
after-suc a xs y k x (inl at) = inl at
after-suc a xs y k x (inr is) = inr (ap suc is.0, is.1)

-- a member of a list and one more
pub get-push : {A : Type 0} (xs : List A) (y : A) (k : ℕ) (x : A) → slice_get (xs ++ y ∷ []) k ≡ Some x → (slice_get xs k ≡ Some x) ⊎ ((k ≡ length xs) × (y ≡ x))
get-push [] y zero x at = inr (refl, cc)
get-push [] y (suc k) x at = absurd (cc)
get-push (a ∷ xs) y zero x at = inl at
get-push (a ∷ xs) y (suc k) x at = after-suc a xs y k x (get-push xs y k x at)

-- one more that is new
apart-pushed : {A : Type 0} (xs : List A) (y : A) → AreApart xs → IsNew xs y → (j k : ℕ) (x : A) → (slice_get xs j ≡ Some x) ⊎ ((j ≡ length xs) × (y ≡ x)) → (slice_get xs k ≡ Some x) ⊎ ((k ≡ length xs) × (y ≡ x)) → j ≡ k
apart-pushed xs y apart new j k x (inl at) (inl at') = apart j k x at at'
apart-pushed xs y apart new j k x (inl at) (inr is) = absurd (new j (at ∙ ap Some (sym is.1)))
apart-pushed xs y apart new j k x (inr is) (inl at) = absurd (new k (at ∙ ap Some (sym is.1)))
apart-pushed xs y apart new j k x (inr is) (inr is') = is.0 ∙ sym is'.0

pub apart-push : {A : Type 0} (xs : List A) (y : A) → AreApart xs → IsNew xs y → AreApart (xs ++ y ∷ [])
apart-push xs y apart new j k x at at' = apart-pushed xs y apart new j k x (get-push xs y j x at) (get-push xs y k x at')

-- the first so many and one more
pub take-get : {A : Type 0} (xs : List A) (k : ℕ) (x : A) → slice_get xs k ≡ Some x → take (suc k) xs ≡ take k xs ++ x ∷ []
take-get [] k x at = absurd (cc)
take-get (a ∷ xs) zero x at = let e : a ≡ x = cc in ap (λ y. y ∷ []) e
take-get (a ∷ xs) (suc k) x at = ap (λ ys. a ∷ ys) (take-get xs k x at)

-- what holds of each holds of the one of a number
pub each-get : {A : Type 0} (P : A → Type 0) (xs : List A) → Each P xs → (k : ℕ) (x : A) → slice_get xs k ≡ Some x → P x
each-get P [] each k x at = absurd (cc)
each-get P (a ∷ xs) each zero x at = let e : a ≡ x = cc in subst P e each.0
each-get P (a ∷ xs) each (suc k) x at = each-get P xs each.1 k x at

pub each-push : {A : Type 0} (P : A → Type 0) (xs : List A) (y : A) → Each P xs → P y → Each P (xs ++ y ∷ [])
each-push P [] y each is = (is, tt)
each-push P (a ∷ xs) y each is = (each.0, each-push P xs y each.1 is)

-- lists that agree place by place
pub zip-push : {A B : Type 0} (R : A → B → Type 0) (xs : List A) (ys : List B) (x : A) (y : B) → AllZip R xs ys → R x y → AllZip R (xs ++ x ∷ []) (ys ++ y ∷ [])
zip-push R [] [] x y all one = (one, tt)
zip-push R [] (b ∷ ys) x y all one = absurd all
zip-push R (a ∷ xs) [] x y all one = absurd all
zip-push R (a ∷ xs) (b ∷ ys) x y all one = (all.0, zip-push R xs ys x y all.1 one)

pub zip-each : {A B : Type 0} (R S : A → B → Type 0) (xs : List A) (ys : List B) → ((x : A) (y : B) → R x y → S x y) → AllZip R xs ys → AllZip S xs ys
zip-each R S [] [] to all = tt
zip-each R S [] (b ∷ ys) to all = absurd all
zip-each R S (a ∷ xs) [] to all = absurd all
zip-each R S (a ∷ xs) (b ∷ ys) to all = (to a b all.0, zip-each R S xs ys to all.1)

pub zip-length : {A B : Type 0} (R : A → B → Type 0) (xs : List A) (ys : List B) → AllZip R xs ys → length xs ≡ length ys
zip-length R [] [] all = refl
zip-length R [] (b ∷ ys) all = absurd all
zip-length R (a ∷ xs) [] all = absurd all
zip-length R (a ∷ xs) (b ∷ ys) all = ap suc (zip-length R xs ys all.1)

-- to each member of the first list there is one of the second
pub zip-left : {A B : Type 0} (R : A → B → Type 0) (xs : List A) (ys : List B) → AllZip R xs ys → (k : ℕ) (x : A) → slice_get xs k ≡ Some x → (y : B) × (slice_get ys k ≡ Some y) × R x y
zip-left R [] ys all k x at = absurd (cc)
zip-left R (a ∷ xs) [] all k x at = absurd all
zip-left R (a ∷ xs) (b ∷ ys) all zero x at = let e : a ≡ x = cc in (b, refl, subst (λ v. R v b) e all.0)
zip-left R (a ∷ xs) (b ∷ ys) all (suc k) x at = zip-left R xs ys all.1 k x at

-- a member of a mapped list is that of a member
pub map-get : {A B : Type 0} (f : A → B) (xs : List A) (k : ℕ) (y : B) → slice_get (map f xs) k ≡ Some y → (x : A) × (slice_get xs k ≡ Some x) × (f x ≡ y)
map-get f [] k y at = absurd (cc)
map-get f (x ∷ xs) zero y at = (x, refl, cc)
map-get f (x ∷ xs) (suc k) y at = map-get f xs k y at

pub get-map : {A B : Type 0} (f : A → B) (xs : List A) (k : ℕ) (x : A) → slice_get xs k ≡ Some x → slice_get (map f xs) k ≡ Some (f x)
get-map f xs k x at = slice_get-map f xs k ∙ ap (option_map f) at

-- a list of what agrees with each member is the mapped list
pub zip-map : {A B C : Type 0} (R : B → C → Type 0) (f : A → B) (g : A → C) (xs : List A) → Each (λ x. R (f x) (g x)) xs → AllZip R (map f xs) (map g xs)
zip-map R f g [] each = tt
zip-map R f g (x ∷ xs) each = (each.0, zip-map R f g xs each.1)

pub zip-get : {A B : Type 0} (R : A → B → Type 0) (xs : List A) (ys : List B) → AllZip R xs ys → (k : ℕ) (x : A) (y : B) → slice_get xs k ≡ Some x → slice_get ys k ≡ Some y → R x y
zip-get R [] ys all k x y at at' = absurd (cc)
zip-get R (a ∷ xs) [] all k x y at at' = absurd all
zip-get R (a ∷ xs) (b ∷ ys) all zero x y at at' =
    let e : a ≡ x = cc in
    let e' : b ≡ y = cc in
    subst (λ v. R x v) e' (subst (λ v. R v b) e all.0)
zip-get R (a ∷ xs) (b ∷ ys) all (suc k) x y at at' = zip-get R xs ys all.1 k x y at at'

-- to each member of the second list there is one of the first
pub zip-right : {A B : Type 0} (R : A → B → Type 0) (xs : List A) (ys : List B) → AllZip R xs ys → (k : ℕ) (y : B) → slice_get ys k ≡ Some y → (x : A) × (slice_get xs k ≡ Some x) × R x y
zip-right R [] [] all k y at = absurd (cc)
zip-right R [] (b ∷ ys) all k y at = absurd all
zip-right R (a ∷ xs) [] all k y at = absurd all
zip-right R (a ∷ xs) (b ∷ ys) all zero y at = let e : b ≡ y = cc in (a, refl, subst (λ v. R a v) e all.0)
zip-right R (a ∷ xs) (b ∷ ys) all (suc k) y at = zip-right R xs ys all.1 k y at

-- none of the first so many, and not the next one
pub none-more_at : {A B : Type 0} (f : A → B) (xs : List A) (n : ℕ) (x : A) (y : B) → slice_get xs n ≡ Some x → (f x ≡ y → ⊥) → ((k : ℕ) → k < n → slice_get (map f xs) k ≡ Some y → ⊥) → (k : ℕ) → k < n + 1 → slice_get (map f xs) k ≡ Some y → ⊥
none-more_at f xs n x y at other before =
    below_more (λ k. slice_get (map f xs) k ≡ Some y → ⊥) n before (λ is. let e : Some (f x) ≡ Some y = sym (get-map f xs n x at) ∙ is in other (cc))

pub none-new : {A B : Type 0} (f : A → B) (xs : List A) (n : ℕ) (y : B) → length xs ≤ n → ((k : ℕ) → k < n → slice_get (map f xs) k ≡ Some y → ⊥) → IsNew (map f xs) y
none-new f xs n y long before k is =
    let own = map-get f xs k y is in
    let below = slice_get_within xs k own.0 own.1 in
    before k (omega arith) is

-- the member that is read at a place
pub read-get : {A : Type 0} (xs : List A) (k : ℕ) (x : A) → k < length xs → x ≡ get_or xs k x → slice_get xs k ≡ Some x
read-get xs k x below is = slice_get_read xs (length xs) k x refl below is
