-- Chains have the spans of what they are made of.
use Rattle.std.proofs.Common.{◌≡◌, ℕ, ◌↔◌, Bool, List, [], ◌∷◌, ◌++◌, map, refl, sym, subst, inl, inr}
use Rattle.std.proofs.lemmas.List.{map-append}
use Rattle.hs_base.specs.Lists.{OneOf}
use Rattle.hs_base.specs.Trees.{Tree, Trees, empty, class, points, assert, cat, alt, repeat, none, more, trees_of, IsProper, AreProper}
use Rattle.hs_base.specs.Spans.{Spans, CatSpans, AltSpans}
use Rattle.hs_base.specs.Items.{items_of}
use Rattle.hs_base.specs.Chains.{Part, literal, ordinary, long, piece_of, piece_tree, pieces_of, chain_trees, ChainSpans, alternatives_of, alternatives_of_all, chains_of}
use Rattle.hs_base.proofs.ListLemmas.{one_of-left, one_of-right, one_of-append}
use Rattle.hs_expr.proofs.ItemLemmas.{joined, cat_spans-split, cat_spans-join, items-have_spans, items-proper}
use Rattle.hs_pieces.proofs.FlatLemmas.{items_in, items_within, parts_of, parts_of-same}

-- a piece has the spans of its items
piece-items : (w : List ℕ) (ended : Bool) (part : Part) (i j : ℕ) →
    Spans w ended (piece_tree (piece_of part)) i j → CatSpans w ended (trees_of (items_in part)) i j
piece-items w ended (literal xs) i j h = h
piece-items w ended (ordinary ts) i j h = h
piece-items w ended (long set least greatest) i j h = (j, h, refl)

items-piece : (w : List ℕ) (ended : Bool) (part : Part) (i j : ℕ) →
    CatSpans w ended (trees_of (items_in part)) i j → Spans w ended (piece_tree (piece_of part)) i j
items-piece w ended (literal xs) i j h = h
items-piece w ended (ordinary ts) i j h = h
items-piece w ended (long set least greatest) i j (m, here, same) =
    subst (λ k. Spans w ended (repeat (class set) least greatest) i k) same here

-- so have pieces in a row
chain-items : (w : List ℕ) (ended : Bool) (parts : List Part) (i j : ℕ) →
    CatSpans w ended (chain_trees (map piece_of parts)) i j → CatSpans w ended (trees_of (items_within parts)) i j
chain-items w ended [] i j h = h
chain-items w ended (part ∷ parts) i j (m, first, others) =
    cat_spans-join w ended (items_in part) (items_within parts) i m j
    (piece-items w ended part i m first) (chain-items w ended parts m j others)

items-chain : (w : List ℕ) (ended : Bool) (parts : List Part) (i j : ℕ) →
    CatSpans w ended (trees_of (items_within parts)) i j → CatSpans w ended (chain_trees (map piece_of parts)) i j
items-chain w ended [] i j h = h
items-chain w ended (part ∷ parts) i j h =
    elim (cat_spans-split w ended (items_in part) (items_within parts) i j h) [
      | joined m before behind ↦ (m, items-piece w ended part i m before, items-chain w ended parts m j behind)
    ]

-- a chain has the spans of its alternative

spans-chain : (t : Tree) → IsProper t → (w : List ℕ) (ended : Bool) (i j : ℕ) →
    Spans w ended t i j → ChainSpans w ended (pieces_of (items_of t)) i j
spans-chain t proper w ended i j h =
    items-chain w ended (parts_of (items_of t)) i j
    (subst (λ items. CatSpans w ended (trees_of items) i j) (sym (parts_of-same (items_of t) (items-proper t proper)))
    ((items-have_spans t w ended i j).1 h))

chain-spans : (t : Tree) → IsProper t → (w : List ℕ) (ended : Bool) (i j : ℕ) →
    ChainSpans w ended (pieces_of (items_of t)) i j → Spans w ended t i j
chain-spans t proper w ended i j h =
    (items-have_spans t w ended i j).0
    (subst (λ items. CatSpans w ended (trees_of items) i j) (parts_of-same (items_of t) (items-proper t proper))
    (chain-items w ended (parts_of (items_of t)) i j h))

-- the chain of an expression that is no alternative
only-chain : (t : Tree) → IsProper t → (w : List ℕ) (ended : Bool) (i j : ℕ) →
    Spans w ended t i j ↔ OneOf (λ chain. ChainSpans w ended chain i j) (pieces_of (items_of t) ∷ [])
only-chain t proper w ended i j =
    (λ h. inl (spans-chain t proper w ended i j h), λ h. elim h [ inl here ↦ chain-spans t proper w ended i j here | inr never ↦ absurd never ])

map-append_chains : (xs ys : List Tree) →
    map (λ u. pieces_of (items_of u)) (xs ++ ys) ≡ map (λ u. pieces_of (items_of u)) xs ++ map (λ u. pieces_of (items_of u)) ys
map-append_chains xs ys = map-append (λ u. pieces_of (items_of u)) xs ys

-- the chains together have the spans of the expression
mutual
  pub chains-spans : (t : Tree) (w : List ℕ) (ended : Bool) (i j : ℕ) → IsProper t →
      Spans w ended t i j ↔ OneOf (λ chain. ChainSpans w ended chain i j) (chains_of t)
  chains-spans empty w ended i j proper = only-chain empty proper w ended i j
  chains-spans (class set) w ended i j proper = only-chain (class set) proper w ended i j
  chains-spans (points ranges) w ended i j proper = only-chain (points ranges) proper w ended i j
  chains-spans (assert assertion) w ended i j proper = only-chain (assert assertion) proper w ended i j
  chains-spans (cat items) w ended i j proper = only-chain (cat items) proper w ended i j
  chains-spans (alt items) w ended i j proper = alternatives-spans items w ended i j proper
  chains-spans (repeat body least greatest) w ended i j proper = only-chain (repeat body least greatest) proper w ended i j

  alternatives-spans : (items : Trees) (w : List ℕ) (ended : Bool) (i j : ℕ) → AreProper items →
      AltSpans w ended items i j ↔ OneOf (λ chain. ChainSpans w ended chain i j) (map (λ u. pieces_of (items_of u)) (alternatives_of_all items))
  alternatives-spans none w ended i j proper = (λ h. h, λ h. h)
  alternatives-spans (more item items) w ended i j proper =
      let seam = map-append_chains (alternatives_of item) (alternatives_of_all items) in
      let first = chains-spans item w ended i j proper.0 in
      let others = alternatives-spans items w ended i j proper.1 in (
        λ h. subst (OneOf (λ chain. ChainSpans w ended chain i j)) (sym seam) (elim h [
          | inl here ↦ one_of-left (λ chain. ChainSpans w ended chain i j) (chains_of item) _ (first.0 here)
          | inr later ↦ one_of-right (λ chain. ChainSpans w ended chain i j) (chains_of item) _ (others.0 later)
        ]),
        λ h. elim (one_of-append (λ chain. ChainSpans w ended chain i j) (chains_of item) _ (subst (OneOf (λ chain. ChainSpans w ended chain i j)) seam h)) [
          | inl here ↦ inl (first.1 here)
          | inr later ↦ inr (others.1 later)
        ],
      )
