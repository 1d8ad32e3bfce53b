-- The paths of nodes.
use Rattle.std.proofs.Common.{◌≡◌, ◌⊎◌, ℕ, ◌<◌, List, [], ◌∷◌, ◌++◌, length, slice_get, get_or, Option, Some, None, refl, sym, ap, subst, ◌∙◌, inl, inr, arith, length-append}
use Rattle.std.proofs.lemmas.Option.{slice_get_within, slice_get-get_or}
use Rattle.hs_forest.specs.Forests.{AreDistinct, ArePaths, HasPath, path_to}
use Rattle.hs_forest.proofs.ListLemmas.{AreKept, get-left, get-behind, get-push, snoc-some}

pub path-kept : (paths more : List (List ℕ)) (node : Option ℕ) (path : List ℕ) → AreKept paths more → path_to paths node ≡ Some path → path_to more node ≡ Some path
path-kept paths more None path kept is = is
path-kept paths more (Some k) path kept is = kept k path is

-- the parent and the key of a node
pub record IsNode (parents : List (Option ℕ)) (keys : List ℕ) (paths : List (List ℕ)) (k : ℕ) (path : List ℕ) : Type 0 where
  pub parent : Option ℕ
  pub key : ℕ
  pub front : List ℕ
  pub parent_is : slice_get parents k ≡ Some parent
  pub key_is : slice_get keys k ≡ Some key
  pub before : path_to paths parent ≡ Some front
  pub path_is : path ≡ front ++ key ∷ []

same-some : {A : Type 0} (x y : A) → Some x ≡ Some y → x ≡ y
same-some x y e = cc

pub path-node : (parents : List (Option ℕ)) (keys : List ℕ) (paths : List (List ℕ)) (k : ℕ) (path : List ℕ) → ArePaths parents keys paths → slice_get paths k ≡ Some path → IsNode parents keys paths k path
path-node parents keys paths k path are at =
    let below : k < length paths = slice_get_within paths k path at in
    let in_parents : k < length parents = omega (arith, are.count) in
    let in_keys : k < length keys = omega (arith, are.count, are.keys_count) in
    let parent_at : slice_get parents k ≡ Some (get_or parents k None) = slice_get-get_or parents k None in_parents in
    let key_at : slice_get keys k ≡ Some (get_or keys k 0) = slice_get-get_or keys k 0 in_keys in
    let own = are.each k (get_or parents k None) (get_or keys k 0) parent_at key_at in record {
      parent = get_or parents k None;
      key = get_or keys k 0;
      front = own.front;
      parent_is = parent_at;
      key_is = key_at;
      before = own.before;
      path_is = same-some path (own.front ++ get_or keys k 0 ∷ []) (sym at ∙ own.path);
    }

-- no path of a node is empty
pub path-some : (parents : List (Option ℕ)) (keys : List ℕ) (paths : List (List ℕ)) (k : ℕ) → ArePaths parents keys paths → slice_get paths k ≡ Some [] → ⊥
path-some parents keys paths k are at =
    let node = path-node parents keys paths k [] are at in
    snoc-some node.front node.key (sym node.path_is)

-- a path is that of one node, or of none
pub path-once : (parents : List (Option ℕ)) (keys : List ℕ) (paths : List (List ℕ)) (p q : Option ℕ) (path : List ℕ) → ArePaths parents keys paths → AreDistinct paths → path_to paths p ≡ Some path → path_to paths q ≡ Some path → p ≡ q
path-once parents keys paths None None path are apart is is' = refl
path-once parents keys paths None (Some k) path are apart is is' =
    let none : path ≡ [] = sym (same-some [] path is) in
    absurd (path-some parents keys paths k are (is' ∙ ap Some none))
path-once parents keys paths (Some j) None path are apart is is' =
    let none : path ≡ [] = sym (same-some [] path is') in
    absurd (path-some parents keys paths j are (is ∙ ap Some none))
path-once parents keys paths (Some j) (Some k) path are apart is is' = ap Some (apart j k path is is')

has-kept : (paths more : List (List ℕ)) (k : ℕ) (parent : Option ℕ) (key : ℕ) → AreKept paths more → HasPath paths k parent key → HasPath more k parent key
has-kept paths more k parent key kept has = record {
  front = has.front;
  before = path-kept paths more parent has.front kept has.before;
  path = kept k (has.front ++ key ∷ []) has.path;
}

module _ (parents : List (Option ℕ)) (keys : List ℕ) (paths : List (List ℕ)) (parent : Option ℕ) (key : ℕ) (front : List ℕ) (are : ArePaths parents keys paths) (before : path_to paths parent ≡ Some front) where
  more : List (List ℕ)
  more = paths ++ (front ++ key ∷ []) ∷ []

  kept : AreKept paths (paths ++ (front ++ key ∷ []) ∷ [])
  kept k path at = get-left paths ((front ++ key ∷ []) ∷ []) k path at

  parent-before : (p : ℕ) → parent ≡ Some p → p < length parents
  parent-before p is =
      let at : slice_get paths p ≡ Some front = subst (λ (q : Option ℕ). path_to paths q ≡ Some front) is before in
      let below = slice_get_within paths p front at in
      omega (arith, below, are.count)

  earlier-more : (k p : ℕ) → (slice_get parents k ≡ Some (Some p)) ⊎ ((k ≡ length parents) × (parent ≡ Some p)) → p < k
  earlier-more k p (inl at) = are.earlier k p at
  earlier-more k p (inr is) = omega (arith, parent-before p is.1, is.0)

  has-more : (k : ℕ) (p : Option ℕ) (x : ℕ) → (slice_get parents k ≡ Some p) ⊎ ((k ≡ length parents) × (parent ≡ p)) → (slice_get keys k ≡ Some x) ⊎ ((k ≡ length keys) × (key ≡ x)) →
      HasPath (paths ++ (front ++ key ∷ []) ∷ []) k p x
  has-more k p x (inl at) (inl at') = has-kept paths (paths ++ (front ++ key ∷ []) ∷ []) k p x kept (are.each k p x at at')
  has-more k p x (inl at) (inr is) = let below = slice_get_within parents k p at in absurd (omega (arith, below, is.0, are.keys_count))
  has-more k p x (inr is) (inl at) = let below = slice_get_within keys k x at in absurd (omega (arith, below, is.0, are.keys_count))
  has-more k p x (inr is) (inr is') = record {
    front = front;
    before = path-kept paths (paths ++ (front ++ key ∷ []) ∷ []) p front kept (subst (λ (q : Option ℕ). path_to paths q ≡ Some front) is.1 before);
    path =
        let last : length paths ≡ k = omega (arith, is.0, are.count) in
        subst (λ n. slice_get (paths ++ (front ++ key ∷ []) ∷ []) n ≡ Some (front ++ x ∷ [])) last
        (get-behind paths (front ++ key ∷ []) ∙ ap (λ y. Some (front ++ y ∷ [])) is'.1);
  }

  -- a node is put behind the others
  pub paths-push : ArePaths (parents ++ parent ∷ []) (keys ++ key ∷ []) (paths ++ (front ++ key ∷ []) ∷ [])
  paths-push = record {
    count = simp length-append (omega (arith, are.count));
    keys_count = simp length-append (omega (arith, are.keys_count));
    earlier = λ k p at. earlier-more k p (get-push parents parent k (Some p) at);
    each = λ k p x at at'. has-more k p x (get-push parents parent k p at) (get-push keys key k x at');
  }
