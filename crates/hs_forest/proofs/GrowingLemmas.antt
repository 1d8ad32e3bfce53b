-- A node for a path: one that is there, or a new one.
use Rattle.std.proofs.Common.{◌≡◌, ℕ, List, [], ◌∷◌, ◌++◌, length, slice_get, Option, Some, None, refl, sym, ap, subst, ◌∙◌}
use Rattle.std.specs.BTreeMap.{Updates}
use Rattle.hs_forest.specs.declared.growing.Growing.{Growing}
use Rattle.hs_forest.specs.Forests.{ArePaths, path_to}
use Rattle.hs_forest.specs.Growing.{IsGrown, IsNewPath, IsSound, edge_cmp, found, added, node_at}
use Rattle.hs_forest.proofs.ListLemmas.{apart-push, snoc-parts}
use Rattle.hs_forest.proofs.PathLemmas.{path-node, path-once, paths-push}
use Rattle.hs_forest.proofs.IndexLemmas.{index-push}

-- the node that the index finds has that path
pub grown-found : (g now : Growing) (paths : List (List ℕ)) (parent : Option ℕ) (key node : ℕ) (front : List ℕ) → now ≡ g → node_at g.index parent key ≡ Some node → IsSound g paths → path_to paths parent ≡ Some front →
    IsGrown now paths (front ++ key ∷ []) node
grown-found g now paths parent key node front same at sound before =
    let own = (sound.index parent key node).0 at in
    let has = sound.are_paths.each node parent key own.0 own.1 in
    let fronts : Some has.front ≡ Some front = sym has.before ∙ before in
    let is : has.front ≡ front = cc in record {
      paths = paths;
      sound = subst (λ (h : Growing). IsSound h paths) (sym same) sound;
      numbered = found refl (has.path ∙ ap (λ xs. Some (xs ++ key ∷ [])) is);
    }

-- the path of a node that isn't found is new
path-new : (g : Growing) (paths : List (List ℕ)) (parent : Option ℕ) (key : ℕ) (front : List ℕ) → node_at g.index parent key ≡ None → IsSound g paths → path_to paths parent ≡ Some front → IsNewPath paths (front ++ key ∷ [])
path-new g paths parent key front none sound before k at =
    let parents = g.parents.items in
    let keys = g.keys.items in
    let node = path-node parents keys paths k (front ++ key ∷ []) sound.are_paths at in
    let parts = snoc-parts front node.front key node.key node.path_is in
    let same_parent : node.parent ≡ parent = path-once parents keys paths node.parent parent front sound.are_paths sound.apart (node.before ∙ ap Some (sym parts.0)) before in
    let parent_is : slice_get parents k ≡ Some parent = node.parent_is ∙ ap Some same_parent in
    let key_is : slice_get keys k ≡ Some key = node.key_is ∙ ap Some (sym parts.1) in
    let found_at : node_at g.index parent key ≡ Some k = (sound.index parent key k).1 (parent_is, key_is) in
    let both : None ≡ Some k = sym none ∙ found_at in
    absurd (cc)

pub grown-added : (g now : Growing) (paths : List (List ℕ)) (parent : Option ℕ) (key node : ℕ) (front : List ℕ) → node_at g.index parent key ≡ None → node ≡ length g.keys.items →
    now.parents.items ≡ g.parents.items ++ parent ∷ [] → now.keys.items ≡ g.keys.items ++ key ∷ [] → Updates edge_cmp g.index now.index (parent, key) (Some node) → IsSound g paths → path_to paths parent ≡ Some front →
    IsGrown now paths (front ++ key ∷ []) node
grown-added g now paths parent key node front none last parents keys updates sound before =
    let new = path-new g paths parent key front none sound before in
    let at_last : Updates edge_cmp g.index now.index (parent, key) (Some (length g.keys.items)) = subst (λ (n : ℕ). Updates edge_cmp g.index now.index (parent, key) (Some n)) last updates in
    let index = index-push g.index now.index g.parents.items g.keys.items parent key sound.index sound.are_paths.keys_count none at_last in
    let are = paths-push g.parents.items g.keys.items paths parent key front sound.are_paths before in record {
      paths = paths ++ (front ++ key ∷ []) ∷ [];
      sound = record {
        are_paths = subst (λ ps. ArePaths ps now.keys.items (paths ++ (front ++ key ∷ []) ∷ [])) (sym parents) (subst (λ ks. ArePaths (g.parents.items ++ parent ∷ []) ks (paths ++ (front ++ key ∷ []) ∷ [])) (sym keys) are);
        index = λ p x k. (
          (λ at. let own = (index p x k).0 at in (subst (λ ps. slice_get ps k ≡ Some p) (sym parents) own.0, subst (λ ks. slice_get ks k ≡ Some x) (sym keys) own.1)),
          (λ at. (index p x k).1 (subst (λ ps. slice_get ps k ≡ Some p) parents at.0, subst (λ ks. slice_get ks k ≡ Some x) keys at.1)),
        );
        apart = apart-push paths (front ++ key ∷ []) sound.apart new;
      };
      numbered = added new refl (last ∙ sound.are_paths.keys_count ∙ sym sound.are_paths.count);
    }
