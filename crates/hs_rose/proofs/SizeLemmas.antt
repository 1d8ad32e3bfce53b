-- How many bytes the fields of chains take.
use Rattle.std.proofs.Common.{◌≡◌, ℕ, suc, ◌+◌, ◌≤◌, List, [], ◌∷◌, length, take, slice_get, Some, sym, ap, ◌∙◌, arith}
use Rattle.std.specs.List.{sum_by}
use Rattle.std.proofs.lemmas.List.{length-take-le, take_all}
use Rattle.std.proofs.lemmas.List.Sums.{sum_by-append, sum_by-take-le}
use Rattle.std.proofs.lemmas.Option.{slice_get_within}
use Rattle.hs_base.specs.Chains.{Piece}
use Rattle.hs_base.specs.Regions.{Place, place_size}
use Rattle.hs_pieces.specs.LookBack.{begins_with_look_back}
use Rattle.hs_rose.specs.Plans.{chain_places, chain_size, chains_size, place_with}
use Rattle.hs_rose.proofs.BuildLemmas.{places-at, places-length}
use Rattle.hs_rose.proofs.ListLemmas.{take-get}

-- one more is counted
sum-more : {A : Type 0} (f : A → ℕ) (xs : List A) (k : ℕ) (x : A) → slice_get xs k ≡ Some x → sum_by f (take (k + 1) xs) ≡ sum_by f (take k xs) + f x
sum-more f xs k x at =
    let next : k + 1 ≡ suc k = omega arith in
    let end : sum_by f (x ∷ []) ≡ f x = omega arith in
    ap (λ n. sum_by f (take n xs)) next ∙ (ap (sum_by f) (take-get xs k x at) ∙ (sum_by-append f (take k xs) (x ∷ []) ∙ ap (λ n. sum_by f (take k xs) + n) end))

-- a piece more
pub piece-counted : (chain : List Piece) (k size n : ℕ) (piece : Piece) → slice_get chain k ≡ Some piece →
    ((pieces : List Piece) → length pieces ≡ k → n ≡ place_size (place_with (begins_with_look_back chain) pieces piece)) →
    size ≡ sum_by place_size (take k (chain_places chain)) → size + n ≡ sum_by place_size (take (k + 1) (chain_places chain))
piece-counted chain k size n piece at is so_far =
    let below = slice_get_within chain k piece at in
    let count : length (take k chain) ≡ k = length-take-le k chain (omega (arith, below)) in
    let place : Place = place_with (begins_with_look_back chain) (take k chain) piece in
    let more = sum-more place_size (chain_places chain) k place (places-at (begins_with_look_back chain) [] chain k piece at) in
    ap (λ m. m + n) so_far ∙ (ap (λ m. sum_by place_size (take k (chain_places chain)) + m) (is (take k chain) count) ∙ sym more)

-- all pieces
pub pieces-counted : (chain : List Piece) (k size : ℕ) → k ≡ length chain → size ≡ sum_by place_size (take k (chain_places chain)) → size ≡ chain_size chain
pieces-counted chain k size all so_far =
    so_far ∙ ap (sum_by place_size) (take_all k (chain_places chain) (omega (arith, all, places-length (begins_with_look_back chain) [] chain)))

-- a chain more
pub chain-counted : (chains : List (List Piece)) (k size n : ℕ) (chain : List Piece) → slice_get chains k ≡ Some chain → n ≡ chain_size chain →
    size ≡ chains_size (take k chains) → size + n ≡ chains_size (take (k + 1) chains)
chain-counted chains k size n chain at is so_far =
    ap (λ m. m + n) so_far ∙ (ap (λ m. chains_size (take k chains) + m) is ∙ sym (sum-more chain_size chains k chain at))

-- a part is no more than all
pub part-counted : (chains : List (List Piece)) (k size : ℕ) → size ≡ chains_size (take k chains) → size ≤ chains_size chains
part-counted chains k size so_far = omega (arith, so_far, sum_by-take-le chain_size chains k)
