-- The candidates of the pieces of chains, one chain more.
use Rattle.std.proofs.Common.{◌≡◌, ℕ, zero, suc, ◌+◌, ◌<◌, ◌≤◌, Bool, List, [], ◌∷◌, ◌++◌, length, map, take, Option, refl, sym, ap, ◌∙◌, subst, arith, append-nil, append_assoc}
use Rattle.std.specs.Prelude.{get_or}
use Rattle.std.proofs.lemmas.Grind.{flat_map-append}
use Rattle.std.proofs.lemmas.List.{length-append, map-append, take_all, take_more}
use Rattle.hs_base.specs.Chains.{Piece}
use Rattle.hs_base.specs.Lists.{Each}
use Rattle.hs_base.specs.Regions.{Place, places_behind}
use Rattle.hs_pieces.specs.LookBack.{begins_with_look_back}
use Rattle.hs_pieces.specs.declared.piece.Chain.{Chain}
use Rattle.hs_pieces.specs.Meaning.{plain_chain}
use Rattle.hs_states.specs.declared.state_sets.StateSets.{StateSets}
use Rattle.hs_kept.specs.declared.builder.Candidate.{Candidate}
use Rattle.hs_kept.specs.declared.builder.PackingBuilder.{PackingBuilder}
use Rattle.hs_kept.specs.Builders.{AreCandidates, HasCandidates, candidates_of, IsBuildable, IsFirstTold, IsPackedTo, IsPieceTold, by_field, by_state, field, none, state}
use Rattle.hs_kept.specs.Builders.{places_in_chain, places_in_chains, places_in_list}

-- behind a chain's first piece no piece is kept by the number of a state
behind-first : (looks_back : Bool) (x : Piece) (pieces rest : List Piece) (number : ℕ) → AreCandidates (places_behind looks_back (x ∷ pieces) rest) [] number
behind-first looks_back x pieces [] number = none
behind-first looks_back x pieces (piece ∷ rest) number =
    field (λ t is. not_empty is.first) (behind-first looks_back x (pieces ++ piece ∷ []) rest (suc number))
  where
    not_empty : x ∷ pieces ≡ [] → ⊥
    not_empty same = let size = ap length same in absurd (omega (arith, size))

first-told : (p : Place) (ps : List Place) (found : Option StateSets) (number : ℕ) → IsPieceTold p found → AreCandidates ps [] (suc number) →
    AreCandidates (p ∷ ps) (candidates_of number found) number
first-told p ps _ number (by_field keeps) rest = field keeps rest
first-told p ps _ number (by_state tree keeps are) rest = state tree keeps refl are rest

chain-told : (chain : List Piece) (found : Option StateSets) (number : ℕ) → IsFirstTold chain found → AreCandidates (places_in_chain chain) (candidates_of number found) number
chain-told [] found number told = subst (λ f. AreCandidates [] (candidates_of number f) number) (sym told) none
chain-told (piece ∷ pieces) found number told =
    first-told _ _ found number told (behind-first (begins_with_look_back (piece ∷ pieces)) piece [] pieces (suc number))

-- one list behind the other
joined : (ps qs : List Place) (cs ds : List Candidate) (from number : ℕ) → AreCandidates ps cs from → number ≡ from + length ps → AreCandidates qs ds number →
    AreCandidates (ps ++ qs) (cs ++ ds) from
joined _ qs _ ds from number none at rest = subst (AreCandidates qs ds) (omega (arith, at)) rest
joined _ qs cs ds from number (field {ps = ps} keeps all) at rest = field keeps (joined ps qs cs ds (suc from) number all (omega (arith, at)) rest)
joined _ qs _ ds from number (state {ps = ps} {cs = cs} tree keeps own are all) at rest =
    state tree keeps own are (joined ps qs cs ds (suc from) number all (omega (arith, at)) rest)

places-length : (looks_back : Bool) (pieces rest : List Piece) → length (places_behind looks_back pieces rest) ≡ length rest
places-length looks_back pieces [] = refl
places-length looks_back pieces (piece ∷ rest) = ap suc (places-length looks_back (pieces ++ piece ∷ []) rest)

-- a chain more
pub chain-added : (old new : PackingBuilder) (before : List Place) (chain : List Piece) (found : Option StateSets) →
    IsFirstTold chain found → new.candidates.items ≡ old.candidates.items ++ candidates_of old.pieces found → new.pieces ≡ old.pieces + length chain →
    HasCandidates old before → HasCandidates new (before ++ places_in_chain chain)
chain-added old new before chain found told added count was = record {
  candidates = subst (λ cs. AreCandidates (before ++ places_in_chain chain) cs 0) (sym added)
      (joined before (places_in_chain chain) old.candidates.items (candidates_of old.pieces found) 0 old.pieces was.candidates (was.pieces ∙ omega arith) (chain-told chain found old.pieces told));
  pieces = omega (arith, count, was.pieces, places-length (begins_with_look_back chain) [] chain, length-append before (places_in_chain chain));
}

-- and the next one
pub chains-more : (b b' : PackingBuilder) (before : List Place) (chains : List (List Piece)) (chain : List Piece) →
    HasCandidates b (before ++ places_in_chains chains) →
    ((ps : List Place) → HasCandidates b ps → HasCandidates b' (ps ++ places_in_chain chain)) →
    HasCandidates b' (before ++ places_in_chains (chains ++ chain ∷ []))
chains-more b b' before chains chain was add =
    let one : places_in_chains (chains ++ chain ∷ []) ≡ places_in_chains chains ++ places_in_chain chain =
    flat_map-append places_in_chain chains (chain ∷ []) ∙ ap (λ ps. places_in_chains chains ++ ps) (append-nil (places_in_chain chain)) in
    subst (HasCandidates b') (append_assoc before (places_in_chains chains) (places_in_chain chain) ∙ ap (λ ps. before ++ ps) (sym one)) (add (before ++ places_in_chains chains) was)

-- the chains of one more expression
pub list-more : (b : PackingBuilder) (before : List (List (List Piece))) (chains : List (List Piece)) →
    HasCandidates b (places_in_list before ++ places_in_chains chains) → IsPackedTo b (before ++ chains ∷ [])
list-more b before chains has =
    subst (HasCandidates b)
    (sym (flat_map-append places_in_chains before (chains ∷ []) ∙ ap (λ ps. places_in_list before ++ ps) (append-nil (places_in_chains chains))))
    has

each-at : {A : Type 0} (P : A → Type 0) (xs : List A) (k : ℕ) (d : A) → Each P xs → k < length xs → P (get_or xs k d)
each-at P [] k d all below = absurd (omega arith)
each-at P (x ∷ xs) zero d all below = all.0
each-at P (x ∷ xs) (suc k) d all below = each-at P xs k d all.1 (omega arith)

each-map : {A B : Type 0} (P : B → Type 0) (f : A → B) (xs : List A) → Each P (map f xs) → Each (λ x. P (f x)) xs
each-map P f [] all = tt
each-map P f (x ∷ xs) all = (all.0, each-map P f xs all.1)

-- the pieces of the chain that is next can be built
pub next-buildable : (chains : List Chain) (k : ℕ) (chain : Chain) → Each (Each IsBuildable) (map plain_chain chains) → k < length chains → chain ≡ get_or chains k chain →
    Each IsBuildable (plain_chain chain)
next-buildable chains k chain all below is =
    subst (λ (c : Chain). Each IsBuildable (plain_chain c)) (sym is)
    (each-at (λ c. Each IsBuildable (plain_chain c)) chains k chain (each-map (Each IsBuildable) plain_chain chains all) below)

-- it is added
pub next-added : (b b' : PackingBuilder) (before : List Place) (chains : List Chain) (k : ℕ) (chain : Chain) → k < length chains → chain ≡ get_or chains k chain →
    HasCandidates b (before ++ places_in_chains (map plain_chain (take k chains))) →
    ((ps : List Place) → HasCandidates b ps → HasCandidates b' (ps ++ places_in_chain (plain_chain chain))) →
    HasCandidates b' (before ++ places_in_chains (map plain_chain (take (k + 1) chains)))
next-added b b' before chains k chain below is was add =
    let one : map plain_chain (take (k + 1) chains) ≡ map plain_chain (take k chains) ++ plain_chain chain ∷ [] =
    ap (map plain_chain) (take_more chains k chain below) ∙ (map-append plain_chain (take k chains) (get_or chains k chain ∷ [])
    ∙ ap (λ (c : Chain). map plain_chain (take k chains) ++ plain_chain c ∷ []) (sym is)) in
    subst (λ cs. HasCandidates b' (before ++ places_in_chains cs)) (sym one) (chains-more b b' before (map plain_chain (take k chains)) (plain_chain chain) was add)

-- all are
pub all-added : (b : PackingBuilder) (before : List (List (List Piece))) (chains : List Chain) (k : ℕ) → length chains ≤ k →
    HasCandidates b (places_in_list before ++ places_in_chains (map plain_chain (take k chains))) → IsPackedTo b (before ++ map plain_chain chains ∷ [])
all-added b before chains k all was =
    list-more b before (map plain_chain chains) (subst (λ (cs : List Chain). HasCandidates b (places_in_list before ++ places_in_chains (map plain_chain cs))) (take_all k chains all) was)
