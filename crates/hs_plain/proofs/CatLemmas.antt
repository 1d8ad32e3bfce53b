-- One item more in a row of items or of alternatives.
use Rattle.std.proofs.Common.{◌≡◌, ℕ, ◌+◌, ◌<◌, ◌⊎◌, ◌||◌, Bool, List, [], ◌∷◌, ◌++◌, length, map, take, get_or, refl, sym, ap, subst, ◌∙◌, inl, inr}
use Rattle.std.proofs.lemmas.List.{take_more, map-append}
use Rattle.hs_base.specs.Trees.{Tree}
use Rattle.hs_base.specs.Spans.{Spans, CatSpans, AltSpans}
use Rattle.hs_expr.specs.declared.expr.Expr.{Expr}
use Rattle.hs_expr.specs.Meaning.{trees_of, tree_of}
use Rattle.hs_plain.specs.declared.offsets.Offsets.{Offsets}
use Rattle.hs_plain.specs.OffsetSets.{room, has, AreEnds}
use Rattle.hs_plain.proofs.OffsetLemmas.{ends-then, ends-map, ends-either}

cat-snoc : (w : List ℕ) (ended : Bool) (ts : List Tree) (t : Tree) (i m j : ℕ) → CatSpans w ended (trees_of ts) i m → Spans w ended t m j → CatSpans w ended (trees_of (ts ++ t ∷ [])) i j
cat-snoc w ended [] t i m j same last = (j, subst (λ k. Spans w ended t k j) (sym same) last, refl)
cat-snoc w ended (s ∷ ts) t i m j (k, one, rest) last = (k, one, cat-snoc w ended ts t k m j rest last)

cat-unsnoc : (w : List ℕ) (ended : Bool) (ts : List Tree) (t : Tree) (i j : ℕ) → CatSpans w ended (trees_of (ts ++ t ∷ [])) i j → (m : ℕ) × CatSpans w ended (trees_of ts) i m × Spans w ended t m j
cat-unsnoc w ended [] t i j (m, last, same) = (i, refl, subst (Spans w ended t i) same last)
cat-unsnoc w ended (s ∷ ts) t i j (k, one, rest) =
    let (m, front, last) = cat-unsnoc w ended ts t k j rest in (m, (k, one, front), last)

alt-snoc : (w : List ℕ) (ended : Bool) (ts : List Tree) (t : Tree) (i j : ℕ) → AltSpans w ended (trees_of ts) i j ⊎ Spans w ended t i j → AltSpans w ended (trees_of (ts ++ t ∷ [])) i j
alt-snoc w ended [] t i j (inl none) = absurd none
alt-snoc w ended [] t i j (inr last) = inl last
alt-snoc w ended (s ∷ ts) t i j (inl (inl here)) = inl here
alt-snoc w ended (s ∷ ts) t i j (inl (inr there)) = inr (alt-snoc w ended ts t i j (inl there))
alt-snoc w ended (s ∷ ts) t i j (inr last) = inr (alt-snoc w ended ts t i j (inr last))

alt-unsnoc : (w : List ℕ) (ended : Bool) (ts : List Tree) (t : Tree) (i j : ℕ) → AltSpans w ended (trees_of (ts ++ t ∷ [])) i j → AltSpans w ended (trees_of ts) i j ⊎ Spans w ended t i j
alt-unsnoc w ended [] t i j (inl last) = inr last
alt-unsnoc w ended [] t i j (inr none) = absurd none
alt-unsnoc w ended (s ∷ ts) t i j (inl here) = inl (inl here)
alt-unsnoc w ended (s ∷ ts) t i j (inr there) = elim (alt-unsnoc w ended ts t i j there) [ inl before ↦ inl (inr before) | inr last ↦ inr last ]

trees-more : (items : List Expr) (k : ℕ) (d : Expr) → k < length items → map tree_of (take (k + 1) items) ≡ map tree_of (take k items) ++ tree_of (get_or items k d) ∷ []
trees-more items k d within =
    ap (map tree_of) (take_more items k d within) ∙ map-append tree_of (take k items) (get_or items k d ∷ [])

-- the ends of one item more
pub cat_ends-more : (w : List ℕ) (ended : Bool) (items : List Expr) (k : ℕ) (item : Expr) (s t u : Offsets) → k < length items → item ≡ get_or items k item →
    AreEnds (CatSpans w ended (trees_of (map tree_of (take k items)))) s t → AreEnds (Spans w ended (tree_of item)) t u → AreEnds (CatSpans w ended (trees_of (map tree_of (take (k + 1) items)))) s u
cat_ends-more w ended items k item s t u within here before next =
    let ts : List Tree = map tree_of (take k items) in
    let e : map tree_of (take (k + 1) items) ≡ ts ++ tree_of item ∷ [] = trees-more items k item within ∙ ap (λ x. ts ++ tree_of x ∷ []) (sym here) in
    subst (λ all. AreEnds (CatSpans w ended (trees_of all)) s u) (sym e)
    (ends-map (λ i j. (m : ℕ) × CatSpans w ended (trees_of ts) i m × Spans w ended (tree_of item) m j) (CatSpans w ended (trees_of (ts ++ tree_of item ∷ []))) s u
    (λ i j (m, front, last). cat-snoc w ended ts (tree_of item) i m j front last)
    (λ i j span. cat-unsnoc w ended ts (tree_of item) i j span)
    (ends-then (CatSpans w ended (trees_of ts)) (Spans w ended (tree_of item)) s t u before next))

-- the ends of one alternative more
pub alt_ends-more : (w : List ℕ) (ended : Bool) (items : List Expr) (k : ℕ) (item : Expr) (s t u v : Offsets) → k < length items → item ≡ get_or items k item →
    AreEnds (AltSpans w ended (trees_of (map tree_of (take k items)))) s t → AreEnds (Spans w ended (tree_of item)) s u →
    room v ≡ room t → ((j : ℕ) → has v j ≡ (has t j || has u j)) → AreEnds (AltSpans w ended (trees_of (map tree_of (take (k + 1) items)))) s v
alt_ends-more w ended items k item s t u v within here before next size members =
    let ts : List Tree = map tree_of (take k items) in
    let e : map tree_of (take (k + 1) items) ≡ ts ++ tree_of item ∷ [] = trees-more items k item within ∙ ap (λ x. ts ++ tree_of x ∷ []) (sym here) in
    subst (λ all. AreEnds (AltSpans w ended (trees_of all)) s v) (sym e)
    (ends-map (λ i j. AltSpans w ended (trees_of ts) i j ⊎ Spans w ended (tree_of item) i j) (AltSpans w ended (trees_of (ts ++ tree_of item ∷ []))) s v
    (λ i j span. alt-snoc w ended ts (tree_of item) i j span)
    (λ i j span. alt-unsnoc w ended ts (tree_of item) i j span)
    (ends-either (AltSpans w ended (trees_of ts)) (Spans w ended (tree_of item)) s t u v before next size members))
