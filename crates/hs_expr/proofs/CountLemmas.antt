-- Counts that are capped on the way are the capped counts.
use Rattle.std.proofs.Common.{◌≡◌, ℕ, ◌+◌, min, max, false, ◌==◌, List, [], ◌∷◌, length, map, fold, Option, Some, None, refl, ap, arith}
use Rattle.std.specs.Option.{option_map}
use Rattle.std.proofs.lemmas.Bool.{false≢true}
use Rattle.std.proofs.lemmas.List.Folds.{fold_stays}
use Rattle.hs_expr.specs.declared.expr.Expr.{Expr}
use Rattle.hs_expr.specs.Meaning.{tree_of, trees_of}
use Rattle.hs_expr.specs.Counts.{greatest_count, capped, least_of, least_width, least_widths, add_bounds, greater_bound}

-- a fold respects what each of its steps respects
fold-respects : {A B C : Type 0} (step : B → A → B) (view : B → C) →
    ((a b : B) (x : A) → view a ≡ view b → view (step a x) ≡ view (step b x)) →
    (a b : B) (xs : List A) → view a ≡ view b → view (fold step a xs) ≡ view (fold step b xs)
fold-respects step view respects a b [] same = same
fold-respects step view respects a b (x ∷ xs) same =
    fold-respects step view respects (step a x) (step b x) xs (respects a b x same)

capped-min : (a b x : ℕ) → capped a ≡ capped b → capped (min a x) ≡ capped (min b x)
capped-min a b x same = omega arith

-- the least of some numbers may begin with any that are the same when capped
pub capped-least : (a b : ℕ) (xs : List ℕ) → capped a ≡ capped b → capped (fold min a xs) ≡ capped (fold min b xs)
capped-least = fold-respects min capped capped-min

-- where there is an alternative, the least width may begin with the cap
pub capped-least_of : (items : List Expr) → false ≡ (length items == 0) →
    capped (fold min greatest_count (least_widths (trees_of (map tree_of items))))
    ≡ capped (least_of (least_widths (trees_of (map tree_of items))))
capped-least_of [] some = absurd (false≢true some)
capped-least_of (item ∷ items) some =
    let first = least_width (tree_of item) in
    capped-least (min greatest_count first) first (least_widths (trees_of (map tree_of items))) (omega arith)

capped-add_bounds : (a b x : Option ℕ) → option_map capped a ≡ option_map capped b →
    option_map capped (add_bounds a x) ≡ option_map capped (add_bounds b x)
capped-add_bounds None None x same = refl
capped-add_bounds None (Some b) x same = cc
capped-add_bounds (Some a) None x same = cc
capped-add_bounds (Some a) (Some b) None same = refl
capped-add_bounds (Some a) (Some b) (Some x) same =
    let inner : capped a ≡ capped b = cc in
    let outer : capped (a + x) ≡ capped (b + x) = omega arith in
    ap Some outer

capped-greater_bound : (a b x : Option ℕ) → option_map capped a ≡ option_map capped b →
    option_map capped (greater_bound a x) ≡ option_map capped (greater_bound b x)
capped-greater_bound None None x same = refl
capped-greater_bound None (Some b) x same = cc
capped-greater_bound (Some a) None x same = cc
capped-greater_bound (Some a) (Some b) None same = refl
capped-greater_bound (Some a) (Some b) (Some x) same =
    let inner : capped a ≡ capped b = cc in
    let outer : capped (max a x) ≡ capped (max b x) = omega arith in
    ap Some outer

-- a sum of bounds may begin with any that are the same when capped
pub capped-sum : (a b : Option ℕ) (xs : List (Option ℕ)) → option_map capped a ≡ option_map capped b →
    option_map capped (fold add_bounds a xs) ≡ option_map capped (fold add_bounds b xs)
capped-sum = fold-respects add_bounds (option_map capped) capped-add_bounds

-- so may the greatest of bounds
pub capped-greatest : (a b : Option ℕ) (xs : List (Option ℕ)) → option_map capped a ≡ option_map capped b →
    option_map capped (fold greater_bound a xs) ≡ option_map capped (fold greater_bound b xs)
capped-greatest = fold-respects greater_bound (option_map capped) capped-greater_bound

-- one width more, from its capped value
pub capped-one_added : (width part total : ℕ) (bound : Option ℕ) → Some part ≡ option_map capped bound →
    total ≡ min (width + part) greatest_count → option_map capped (Some total) ≡ option_map capped (add_bounds (Some width) bound)
capped-one_added width part total None same sum = cc
capped-one_added width part total (Some n) same sum =
    let inner : part ≡ capped n = cc in
    let outer : capped total ≡ capped (width + n) = omega arith in
    ap Some outer

pub capped-one_greater : (width part total : ℕ) (bound : Option ℕ) → Some part ≡ option_map capped bound →
    total ≡ max width part → option_map capped (Some total) ≡ option_map capped (greater_bound (Some width) bound)
capped-one_greater width part total None same sum = cc
capped-one_greater width part total (Some n) same sum =
    let inner : part ≡ capped n = cc in
    let outer : capped total ≡ capped (max width n) = omega arith in
    ap Some outer

-- a width without bound takes the bound of the whole
pub unbounded-sum : (width : ℕ) (bound : Option ℕ) (xs : List (Option ℕ)) → None ≡ option_map capped bound →
    fold add_bounds (add_bounds (Some width) bound) xs ≡ None
unbounded-sum width None xs same = fold_stays add_bounds None (λ x. refl) xs
unbounded-sum width (Some n) xs same = cc

pub unbounded-greatest : (width : ℕ) (bound : Option ℕ) (xs : List (Option ℕ)) → None ≡ option_map capped bound →
    fold greater_bound (greater_bound (Some width) bound) xs ≡ None
unbounded-greatest width None xs same = fold_stays greater_bound None (λ x. refl) xs
unbounded-greatest width (Some n) xs same = cc
