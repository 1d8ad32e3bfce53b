-- Lists of trees that grow.
use Rattle.std.proofs.Common.{◌≡◌, ℕ, ◌+◌, ◌<◌, ◌≤◌, List, [], ◌∷◌, ◌++◌, map, take, drop, length, get_or, refl, sym, ap, ap₂, subst, ◌∙◌, append_assoc, append-nil, add-one, drop-cons, drop_of_length-le}
use Rattle.std.specs.List.{zip}
use Rattle.std.proofs.lemmas.List.{map-append, take_more}
use Rattle.hs_base.specs.Trees.{Tree, none, more, trees_of}
use Rattle.hs_expr.specs.Meaning.{tree_of}
use Rattle.hs_expr.specs.declared.expr.Expr.{Expr}
use Rattle.hs_utf8.specs.Runs.{place_tree}
use Rattle.hs_utf8.specs.Lowered.{IsLowered, AreLowered}

-- one expression more is one tree more
pub map-push : (old new : List Expr) (e : Expr) (t : Tree) → new ≡ old ++ e ∷ [] → tree_of e ≡ t →
    map tree_of new ≡ map tree_of old ++ t ∷ []
map-push old new e t grown is =
    ap (map tree_of) grown ∙ map-append tree_of old (e ∷ []) ∙ ap (λ u. map tree_of old ++ u ∷ []) is

-- the classes of one place more
pub classes-more : (xs : List Tree) (firsts lasts : List ℕ) (i : ℕ) → i < length firsts → i < length lasts →
    (xs ++ place_tree (get_or firsts i 0, get_or lasts i 0) ∷ []) ++ map place_tree (zip (drop (i + 1) firsts) (drop (i + 1) lasts))
    ≡ xs ++ map place_tree (zip (drop i firsts) (drop i lasts))
classes-more xs firsts lasts i inside within =
    append_assoc xs (place_tree (get_or firsts i 0, get_or lasts i 0) ∷ []) (map place_tree (zip (drop (i + 1) firsts) (drop (i + 1) lasts)))
    ∙ ap (λ n. xs ++ place_tree (get_or firsts i 0, get_or lasts i 0) ∷ map place_tree (zip (drop n firsts) (drop n lasts))) (add-one i)
    ∙ sym (ap₂ (λ a b. xs ++ map place_tree (zip a b)) (drop-cons firsts i 0 inside) (drop-cons lasts i 0 within))

pub classes-all : (xs : List Tree) (firsts lasts : List ℕ) (i : ℕ) → length firsts ≤ i →
    xs ++ map place_tree (zip (drop i firsts) (drop i lasts)) ≡ xs
classes-all xs firsts lasts i whole =
    ap (λ a. xs ++ map place_tree (zip a (drop i lasts))) (drop_of_length-le firsts whole) ∙ append-nil xs

-- one tree more in bytes
pub lowered-push : (xs ys : List Tree) (t u : Tree) → AreLowered (trees_of xs) (trees_of ys) → IsLowered t u →
    AreLowered (trees_of (xs ++ t ∷ [])) (trees_of (ys ++ u ∷ []))
lowered-push [] [] t u same here = (u, none, here, refl, refl)
lowered-push [] (y ∷ ys) t u same here = absurd (let no : ⊥ = cc in no)
lowered-push (x ∷ xs) [] t u (first, others, one, rest, same) here = absurd (let no : ⊥ = cc in no)
lowered-push (x ∷ xs) (y ∷ ys) t u (first, others, one, rest, same) here =
    let head : first ≡ y = cc in
    let tail : others ≡ trees_of ys = cc in
    (first, trees_of (ys ++ u ∷ []), one, lowered-push xs ys t u (rw tail at rest) here, ap (λ h. more h (trees_of (ys ++ u ∷ []))) (sym head))

pub lowered-more : (items : List Expr) (i : ℕ) (item : Expr) (old new : List Expr) (e : Expr) → i < length items →
    item ≡ get_or items i item → new ≡ old ++ e ∷ [] →
    AreLowered (trees_of (map tree_of (take i items))) (trees_of (map tree_of old)) → IsLowered (tree_of item) (tree_of e) →
    AreLowered (trees_of (map tree_of (take (i + 1) items))) (trees_of (map tree_of new))
lowered-more items i item old new e within is grown before here =
    let more_items = map-push (take i items) (take (i + 1) items) item (tree_of item)
    (take_more items i item within ∙ ap (λ x. take i items ++ x ∷ []) (sym is)) refl in
    let more_new = map-push old new e (tree_of e) grown refl in
    subst (λ ts. AreLowered (trees_of ts) (trees_of (map tree_of new))) (sym more_items)
    (subst (λ ts. AreLowered (trees_of (map tree_of (take i items) ++ tree_of item ∷ [])) (trees_of ts)) (sym more_new)
    (lowered-push (map tree_of (take i items)) (map tree_of old) (tree_of item) (tree_of e) before here))
