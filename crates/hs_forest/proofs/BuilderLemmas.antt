-- A forest is built chain by chain.
use Rattle.std.proofs.Common.{◌≡◌, ◌⊎◌, ℕ, suc, ◌<◌, List, [], ◌∷◌, ◌++◌, length, map, flat_map, take, drop, slice_get, Option, Some, None, refl, sym, ap, subst, ◌∙◌, inl, inr, arith, append_assoc}
use Rattle.std.proofs.lemmas.Bool.{cases_lt}
use Rattle.std.proofs.lemmas.List.{append-nil, length-append, map-append, take-append-drop}
use Rattle.std.proofs.lemmas.Option.{slice_get_within}
use Rattle.hs_base.specs.Lists.{OneOf}
use Rattle.hs_base.proofs.ListLemmas.{one_of-left, one_of-right}
use Rattle.hs_forest.specs.declared.builder.Builder.{Builder}
use Rattle.hs_forest.specs.declared.growing.Growing.{Growing}
use Rattle.hs_forest.specs.Forests.{ForestTables, ArePaths, AreInOrder, BeginsWith, HasFirst, IsForestOf, beginnings, beginnings_behind, path_to}
use Rattle.hs_forest.specs.Growing.{AreFinished, IsBuilt, IsBuiltTo, IsFinished, IsGrown, IsPathNumbered, IsSound, added, found}
use Rattle.hs_forest.proofs.ListLemmas.{AreKept, get-behind, get-left, get-push, map-kept, map-value, numbered-kept, numbered-named, numbered-old, take-get}
use Rattle.hs_forest.proofs.PathLemmas.{path-kept}

pub beginnings-snoc : (front xs : List ℕ) (x : ℕ) → beginnings_behind front (xs ++ x ∷ []) ≡ beginnings_behind front xs ++ (front ++ (xs ++ x ∷ [])) ∷ []
beginnings-snoc front [] x = refl
beginnings-snoc front (a ∷ xs) x =
    ap (λ zs. (front ++ a ∷ []) ∷ zs) (beginnings-snoc (front ++ a ∷ []) xs x
    ∙ ap (λ z. beginnings_behind (front ++ a ∷ []) xs ++ z ∷ []) (append_assoc front (a ∷ []) (xs ++ x ∷ [])))

pub flat-snoc : (xss : List (List ℕ)) (xs : List ℕ) → flat_map beginnings (xss ++ xs ∷ []) ≡ flat_map beginnings xss ++ beginnings xs
flat-snoc [] xs = append-nil (beginnings xs)
flat-snoc (ys ∷ xss) xs = ap (λ zs. beginnings ys ++ zs) (flat-snoc xss xs) ∙ sym (append_assoc (beginnings ys) (flat_map beginnings xss) (beginnings xs))

-- the paths begin chains
abbrev pub AreNeeded : List (List ℕ) → List (List ℕ) → Type 0
AreNeeded paths chains = (k : ℕ) (path : List ℕ) → slice_get paths k ≡ Some path → OneOf (BeginsWith path) chains

-- no key of the next chain
pub chain-begun : (b : Builder) (chains : List (List ℕ)) (chain : List ℕ) → IsBuilt b chains → IsBuiltTo b chains chain 0 None
chain-begun b chains chain built = record {
  paths = built.paths;
  sound = built.sound;
  needed = λ k path at. one_of-left (BeginsWith path) chains (chain ∷ []) (built.needed k path at);
  nodes = built.nodes ∙ ap (λ zs. map Some zs) (sym (append-nil (flat_map beginnings chains)));
  order = built.order;
  last_nodes = built.last_nodes;
  last_is = refl;
}

-- the nodes that are named are there, and one more is
module _ (paths : List (List ℕ)) (nodes : List ℕ) (path : List ℕ) (old : List (List ℕ)) (are : map (λ k. slice_get paths k) nodes ≡ map Some old) (order : AreInOrder nodes (length paths)) where
  below : (j n : ℕ) → slice_get nodes j ≡ Some n → n < length paths
  below j n at = let own = map-value (λ k. slice_get paths k) nodes old are j n at in slice_get_within paths n own.0 own.2

  first-kept : (node k : ℕ) → k < length paths → HasFirst (nodes ++ node ∷ []) k
  first-kept node k low =
      let first = order k low in record {
        place = first.place;
        there = get-left nodes (node ∷ []) first.place k first.there;
        before = λ j n less at. elim (get-push nodes node j n at) [
          | inl at' ↦ first.before j n less at'
          | inr last ↦ absurd (let inside = slice_get_within nodes first.place k first.there in omega (arith, inside, less, last.0))
        ];
      }

  first-new : (node : ℕ) → node ≡ length paths → HasFirst (nodes ++ node ∷ []) node
  first-new node is = record {
    place = length nodes;
    there = get-behind nodes node;
    before = λ j n less at. elim (get-push nodes node j n at) [
      | inl at' ↦ omega (arith, below j n at', is)
      | inr last ↦ absurd (omega (arith, less, last.0))
    ];
  }

  order-more : (node : ℕ) (more : List (List ℕ)) → IsPathNumbered paths path more node → AreInOrder (nodes ++ node ∷ []) (length more)
  order-more node more (found same at) k low = first-kept node k (omega (arith, low, ap length same))
  order-more node more (added new same end) k low = elim (cases_lt k (length paths)) [
    | inl less ↦ first-kept node k less
    | inr past ↦
        let last : node ≡ k = omega (arith, end, past, low, ap length same, length-append paths (path ∷ [])) in
        subst (λ n. HasFirst (nodes ++ node ∷ []) n) last (first-new node end)
  ]

needed-more : (paths more chains : List (List ℕ)) (chain : List ℕ) (n : ℕ) (node : ℕ) → AreNeeded paths (chains ++ chain ∷ []) → ((k : ℕ) (path : List ℕ) → slice_get more k ≡ Some path → (slice_get paths k ≡ Some path) ⊎ (take n chain ≡ path)) →
    AreNeeded more (chains ++ chain ∷ [])
needed-more paths more chains chain n node needed old k path at = by_old (old k path at) where
  by_old : (slice_get paths k ≡ Some path) ⊎ (take n chain ≡ path) → OneOf (BeginsWith path) (chains ++ chain ∷ [])
  by_old (inl at') = needed k path at'
  by_old (inr is) = one_of-right (BeginsWith path) chains (chain ∷ []) (inl (drop n chain, sym (take-append-drop n chain) ∙ ap (λ p. p ++ drop n chain) is))

-- one more key
pub chain-step : (b now : Builder) (chains : List (List ℕ)) (chain : List ℕ) (n m key node : ℕ) (last : Option ℕ) → m ≡ suc n → slice_get chain n ≡ Some key →
    ((paths : List (List ℕ)) (front : List ℕ) → IsSound b.growing paths → path_to paths last ≡ Some front → IsGrown now.growing paths (front ++ key ∷ []) node) →
    now.nodes.items ≡ b.nodes.items ++ node ∷ [] → now.last_nodes.items ≡ b.last_nodes.items → IsBuiltTo b chains chain n last → IsBuiltTo now chains chain m (Some node)
chain-step b now chains chain n m key node last next at grows nodes lasts built =
    let paths = built.paths in
    let grown = grows paths (take n chain) built.sound built.last_is in
    let more = grown.paths in
    let path : take m chain ≡ take n chain ++ key ∷ [] = ap (λ i. take i chain) next ∙ take-get chain n key at in
    let kept : AreKept paths more = numbered-kept paths (take n chain ++ key ∷ []) more node grown.numbered in
    let named : slice_get more node ≡ Some (take m chain) = numbered-named paths (take n chain ++ key ∷ []) more node grown.numbered ∙ ap Some (sym path) in
    let old = flat_map beginnings chains ++ beginnings (take n chain) in
    let first : map (λ k. slice_get more k) b.nodes.items ≡ map Some old = map-kept (λ k. slice_get paths k) (λ k. slice_get more k) b.nodes.items old built.nodes kept in
    let behind : old ++ take m chain ∷ [] ≡ flat_map beginnings chains ++ beginnings (take m chain) =
    append_assoc (flat_map beginnings chains) (beginnings (take n chain)) (take m chain ∷ [])
    ∙ ap (λ zs. flat_map beginnings chains ++ zs) (ap (λ z. beginnings (take n chain) ++ z ∷ []) path ∙ sym (beginnings-snoc [] (take n chain) key) ∙ ap beginnings (sym path)) in record {
      paths = more;
      sound = grown.sound;
      needed = needed-more paths more chains chain m node built.needed (λ k p is. let own = numbered-old paths (take n chain ++ key ∷ []) more node grown.numbered k p is in subst (λ z. (slice_get paths k ≡ Some p) ⊎ (z ≡ p)) (sym path) own);
      nodes =
          ap (λ ns. map (λ k. slice_get more k) ns) nodes ∙ map-append (λ k. slice_get more k) b.nodes.items (node ∷ [])
          ∙ ap (λ zs. zs ++ slice_get more node ∷ []) first ∙ ap (λ z. map Some old ++ z ∷ []) named
          ∙ sym (map-append Some old (take m chain ∷ [])) ∙ ap (λ zs. map Some zs) behind;
      order = subst (λ ns. AreInOrder ns (length more)) (sym nodes) (order-more paths b.nodes.items (take n chain ++ key ∷ []) old built.nodes built.order node more grown.numbered);
      last_nodes =
          ap (λ ns. map (path_to more) ns) lasts
          ∙ map-kept (path_to paths) (path_to more) b.last_nodes.items chains built.last_nodes (λ p q is. path-kept paths more p q kept is);
      last_is = named;
    }

-- the whole chain
pub chain-ended : (b now : Builder) (chains : List (List ℕ)) (chain : List ℕ) (n : ℕ) (last : Option ℕ) → take n chain ≡ chain → now.growing ≡ b.growing → now.nodes.items ≡ b.nodes.items → now.last_nodes.items ≡ b.last_nodes.items ++ last ∷ [] →
    IsBuiltTo b chains chain n last → IsBuilt now (chains ++ chain ∷ [])
chain-ended b now chains chain n last whole growing nodes lasts built =
    let paths = built.paths in record {
      paths = paths;
      sound = subst (λ (g : Growing). IsSound g paths) (sym growing) built.sound;
      needed = built.needed;
      nodes =
          ap (λ ns. map (λ k. slice_get paths k) ns) nodes ∙ built.nodes
          ∙ ap (λ zs. map Some zs) (ap (λ xs. flat_map beginnings chains ++ beginnings xs) whole ∙ sym (flat-snoc chains chain));
      order = subst (λ ns. AreInOrder ns (length paths)) (sym nodes) built.order;
      last_nodes =
          ap (λ ns. map (path_to paths) ns) lasts ∙ map-append (path_to paths) b.last_nodes.items (last ∷ [])
          ∙ ap (λ zs. zs ++ path_to paths last ∷ []) built.last_nodes ∙ ap (λ z. map Some chains ++ z ∷ []) (built.last_is ∙ ap Some whole)
          ∙ sym (map-append Some chains (chain ∷ []));
    }

-- all that is named is there
pub built-finished : (b : Builder) (chains : List (List ℕ)) → IsBuilt b chains → AreFinished b
built-finished b chains built =
    let paths = built.paths in
    let are = built.sound.are_paths in record {
      keys = are.keys_count;
      earlier = are.earlier;
      owners = λ k p at.
          let inside = slice_get_within b.growing.parents.items k (Some p) at in
          omega (arith, inside, are.earlier k p at);
      nodes = λ i k at.
          let own = map-value (λ n. slice_get paths n) b.nodes.items (flat_map beginnings chains) built.nodes i k at in
          let below = slice_get_within paths k own.0 own.2 in
          omega (arith, below, are.count);
      last_nodes = λ c k at.
          let own = map-value (path_to paths) b.last_nodes.items chains built.last_nodes c (Some k) at in
          let below = slice_get_within paths k own.0 own.2 in
          omega (arith, below, are.count);
    }

-- the forest of the chains
pub built-forest : (b : Builder) (t : ForestTables) (chains : List (List ℕ)) → IsBuilt b chains → IsFinished b t → IsForestOf t chains
built-forest b t chains built done = record {
  paths = built.paths;
  are_paths = subst (λ ps. ArePaths ps t.keys built.paths) (sym done.parents) (subst (λ ks. ArePaths b.growing.parents.items ks built.paths) (sym done.keys) built.sound.are_paths);
  apart = built.sound.apart;
  needed = built.needed;
  nodes = ap (λ ns. map (λ k. slice_get built.paths k) ns) done.nodes ∙ built.nodes;
  order = subst (λ ns. AreInOrder ns (length t.parents)) (sym done.nodes)
      (subst (λ n. AreInOrder b.nodes.items n) (built.sound.are_paths.count ∙ sym (ap length done.parents)) built.order);
  last_nodes = ap (λ ns. map (path_to built.paths) ns) done.last_nodes ∙ built.last_nodes;
  children = done.children;
}
