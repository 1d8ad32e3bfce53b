-- What holds of forests.
use Rattle.std.proofs.Common.{◌≡◌, ◌↔◌, ℕ, List, flat_map, Some, slice_get, sym, ap, subst, ◌∙◌}
use Rattle.hs_forest.specs.Forests.{ForestTables, IsForestOf, beginnings}
use Rattle.hs_forest.specs.Laws.{IsNodeOf}
use Rattle.hs_forest.proofs.ListLemmas.{map-value}

same-some : {A : Type 0} (x y : A) → Some x ≡ Some y → x ≡ y
same-some x y e = cc

node-path : (t : ForestTables) (chains : List (List ℕ)) (i node : ℕ) (xs : List ℕ) (is : IsForestOf t chains) → IsNodeOf t chains i node xs → slice_get is.paths node ≡ Some xs
node-path t chains i node xs is of =
    let own = map-value (λ k. slice_get is.paths k) t.nodes (flat_map beginnings chains) is.nodes i node of.node_is in
    own.2 ∙ sym own.1 ∙ of.beginning_is

pub one-node : (t : ForestTables) (chains : List (List ℕ)) (i j a b : ℕ) (xs ys : List ℕ) → IsForestOf t chains → IsNodeOf t chains i a xs → IsNodeOf t chains j b ys → (a ≡ b) ↔ (xs ≡ ys)
one-node t chains i j a b xs ys is of of' =
    let at = node-path t chains i a xs is of in
    let at' = node-path t chains j b ys is of' in (
      (λ e. same-some xs ys (sym at ∙ ap (λ k. slice_get is.paths k) e ∙ at')),
      (λ e. is.apart a b ys (subst (λ zs. slice_get is.paths a ≡ Some zs) e at) at'),
    )
